use Rattle.std.proofs.Common.{ℕ, List, [], ◌∷◌, length, get_or, sym, subst, ap, ◌∙◌}
use Rattle.std.proofs.lemmas.Result.{on_ok_weaker}
use Rattle.source_tree.specs.Ends.{AreEndChanges, end_in}
use Rattle.source_tree.proofs.Shifts.{only_one}
use Rattle.source_tree.proofs.ends.log_ends.Goals as goal

pub returns-then-finals-eq1 : goal.returns-then-finals-eq1
returns-then-finals-eq1 c =
    let tree = c.args.tree.now in
    let log = c.log_by_one.new.log.items in
    let finals = c.final_states-finals.result.now in
    let one = get_or finals 0 0 ∷ [] in
    on_ok_weaker c.log_by_one.result
    (λ logs old are held order empty.
    subst (λ (all : List ℕ). AreEndChanges tree.root (end_in all old) (end_in all tree) log)
    (sym (only_one finals c.if-finals-eq1.true) ∙ c.final_states-finals.ensures)
    (subst (λ (root : ℕ). AreEndChanges root (end_in one old) (end_in one tree) log)
    c.root.ensures.root (logs old tree are empty)))
    c.log_by_one.ensures

pub returns-else-finals-eq1 : goal.returns-else-finals-eq1
returns-else-finals-eq1 c =
    on_ok_weaker c.log_by_runs.result
    (λ logs old are held order empty. logs old are held
    (order (λ one. c.if-finals-eq1.false
    (ap (λ (all : List ℕ). length all) c.final_states-finals.ensures ∙ one))) empty)
    c.log_by_runs.ensures
