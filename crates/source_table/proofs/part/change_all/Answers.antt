use Rattle.std.proofs.Common.{◌+◌, List, Contains, get_or, length, sym, ap, subst, ◌∙◌}
use Rattle.source_tree.specs.Ends.{SourceValue}
use Rattle.source_table.specs.Parts.{Tries, TriesIf}
use Rattle.source_table.proofs.Lists.{whole}
use Rattle.source_table.proofs.part.change_all.Goals as goal

pub returns-else-size-len-clause-tries : goal.returns-else-size-len-clause-tries
returns-else-size-len-clause-tries g c offset d below =
    let items = c.args.sources.now.items in
    let chosen = c.args.chosen.now in
    let product = c.args.product.now in
    let new = c.change_part.new.part in
    let tries = subst (λ (old : List SourceValue). Tries chosen 0 c.args.change product
    old new) c.deref_mut.ensures.value c.change_part.ensures in
    subst (λ (after : List SourceValue). TriesIf (Contains chosen (0 + offset)) c.args.change
    product (get_or items offset d) (get_or after offset d))
    (sym (whole c.args.sources.now.len items new c.args.sources.now.ok.0
    (c.change_part.auto.part ∙ ap length c.deref_mut.ensures.value)))
    (tries offset d below)
