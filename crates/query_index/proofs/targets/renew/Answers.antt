use Rattle.std.proofs.Common.{◌≡◌, List, sym, ap, subst, ◌∙◌}
use Rattle.source_tree.specs.declared.change.Reached.{Reached}
use Rattle.answer_rows.specs.Answers.{AreTargets}
use Rattle.answer_rows.specs.declared.target.Target.{Target}
use Rattle.query_index.specs.Showing.{targets_among}
use Rattle.query_index.proofs.Rows.{AreNamed, both_ok, renewed, row_in_order, sorted_named}
use Rattle.query_index.proofs.targets.renew.Goals as goal

pub targets_among-requires : goal.targets_among-requires
targets_among-requires c =
    subst (AreNamed c.args.names.now) (sym {A = List Reached} c.deref.ensures.value)
    (sorted_named c.args.mode c.args.names.now c.args.forest.now c.args.root
    c.in_ok-reached.reached.items c.sort_by_names.new.reached.items c.keeps_names_apart.ensures
    c.requires.named c.in_ok-reached.ensures c.sort_by_names.ensures.permutation)

-- the targets are those of the vertices in order
targets_are : (c : goal.After-name_of) → c.in_ok-targets.targets.items
    ≡ targets_among c.args.mode c.args.names.now c.args.root c.sort_by_names.new.reached.items
targets_are c =
    c.in_ok-targets.ensures
    ∙ ap (targets_among c.args.mode c.args.names.now c.args.root) c.deref.ensures.value

pub set-requires : goal.set-requires
set-requires c =
    subst AreTargets (sym {A = List Target} (targets_are c))
    (row_in_order c.args.mode c.args.names.now c.args.forest.now c.args.root
    c.in_ok-reached.reached.items c.sort_by_names.new.reached.items c.keeps_names_apart.ensures
    c.requires.named c.in_ok-reached.ensures c.sort_by_names.ensures.permutation
    c.sort_by_names.ensures.sorted)

pub returns : goal.returns
returns c =
    let mode = c.args.mode in
    let names = c.args.names.now in
    let root = c.args.root in
    let sorted = c.sort_by_names.new.reached.items in
    let targets : c.in_ok-targets.targets.items ≡ targets_among mode names root sorted =
    c.in_ok-targets.ensures ∙ ap (targets_among mode names root) c.deref.ensures.value in
    both_ok c.set.result c.set.ensures.row c.set.ensures.others
    (λ row others.
    renewed mode names c.args.forest.now root c.in_ok-reached.reached.items sorted
    c.keeps_names_apart.ensures c.requires.named c.in_ok-reached.ensures
    c.sort_by_names.ensures.permutation c.ends_are_in_rows.ensures c.sort_by_names.ensures.sorted
    c.name_of.result.now c.args.rows.now c.set.new.self c.name_of.ensures.number (row ∙ targets)
    others)
