use Rattle.std.proofs.Common.{refl, sym, ◌∙◌, true≢false, arith}
use Rattle.source_tree.proofs.Standing.{none_more, none_of_all}
use Rattle.source_tree.proofs.ends.stands_in.Goals as goal

pub returns-then-is_beside : goal.returns-then-is_beside
returns-then-is_beside c = (
  (λ passed. (c.node_at-id.result, c.is_beside.ensures.0 c.if-is_beside.true)),
  (λ has. refl),
)

pub loop-k-init : goal.loop-k-init
loop-k-init c place id below = absurd (omega (arith, below))

pub loop-k-preserved : goal.loop-k-preserved
loop-k-preserved c =
    none_more c.args.product.now.finals c.args.tree.now c.args.vertex c.args.run.now c.loop-k.k
    c.node_at-id.result c.loop-k.invariant c.node_at-id.ensures
    (λ beside. true≢false (sym (c.is_beside.ensures.1 beside) ∙ c.if-is_beside.false))

pub returns : goal.returns
returns c =
    none_of_all c.args.product.now.finals c.args.tree.now c.args.vertex c.args.run.now c.loop-k.k
    (omega arith) c.len-k-end.ensures.walk c.loop-k.invariant
