use Rattle.std.proofs.Common.{sym, ap, ◌∙◌, true≢false}
use Rattle.std.specs.Prelude.{is_some}
use Rattle.source_tree.specs.Telling.{IsBeside}
use Rattle.source_tree.proofs.Standing.{has_listed, not_listed, not_so}
use Rattle.source_tree.proofs.ends.is_beside.Goals as goal

pub returns-then-id-vertex : goal.returns-then-id-vertex
returns-then-id-vertex c =
    not_so (IsBeside c.args.product.now.finals c.args.tree.now c.args.vertex c.args.run.now
    c.args.id)
    (λ beside. c.if-id-vertex.true beside.there)

pub returns-then-not-is_final : goal.returns-then-not-is_final
returns-then-not-is_final c =
    not_so (IsBeside c.args.product.now.finals c.args.tree.now c.args.vertex c.args.run.now
    c.args.id)
    (λ beside. true≢false
    (sym (c.is_final.ensures.1 beside.final) ∙ c.if-not-is_final.true))

pub returns-then-has_place : goal.returns-then-has_place
returns-then-has_place c =
    not_so (IsBeside c.args.product.now.finals c.args.tree.now c.args.vertex c.args.run.now
    c.args.id)
    (λ beside. beside.apart (has_listed c.args.run.now c.args.id
    (sym c.has_place.ensures ∙ c.if-has_place.true)))

pub returns : goal.returns
returns c = (
  (λ passed. record {
    there = c.if-id-vertex.false;
    final = c.is_final.ensures.0 c.if-not-is_final.false;
    apart = not_listed c.args.run.now c.args.id (sym c.has_place.ensures ∙ c.if-has_place.false);
    stands = sym (c.is_some.ensures ∙ ap is_some c.value_of.ensures) ∙ passed;
  }),
  (λ beside. c.is_some.ensures ∙ ap is_some c.value_of.ensures ∙ beside.stands),
)
