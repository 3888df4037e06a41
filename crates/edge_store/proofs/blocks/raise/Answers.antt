use Rattle.std.proofs.Common.{subst, sym, arith}
use Rattle.edge_store.specs.Blocks.{RaisesBound}
use Rattle.edge_store.proofs.BlockBounds.{raised_within, raised_new}
use Rattle.edge_store.proofs.blocks.raise.Goals as goal

pub returns-then-block-len : goal.returns-then-block-len
returns-then-block-len c =
    raised_within c.args.bounds.now.items c.args.block c.index.result.now c.args.value c.max.result
    (omega (arith, c.if-block-len.true, c.len.ensures, c.args.bounds.now.ok.0)) c.index.ensures
    c.max.ensures

pub returns-else-block-len : goal.returns-else-block-len
returns-else-block-len c =
    subst (λ bounds. RaisesBound c.args.bounds.now.items bounds c.args.block c.args.value)
    (sym c.push_reserved.ensures.items)
    (raised_new c.args.bounds.now.items c.args.block c.args.value
    (omega (
      arith,
      c.if-block-len.false,
      c.len.ensures,
      c.args.bounds.now.ok.0,
      c.requires.next,
    )))
