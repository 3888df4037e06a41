use Rattle.std.proofs.Common.{sym, subst}
use Rattle.join_bindings.specs.Overlaps.{IsOverlap}
use Rattle.join_bindings.proofs.overlap.narrowest.Goals as goal

pub loop-overlap-init : goal.loop-overlap-init
loop-overlap-init c = λ sets are. tt

pub loop-overlap-preserved : goal.loop-overlap-preserved
loop-overlap-preserved c = λ sets are.
    c.narrower-narrow.ensures sets
    (subst (IsOverlap sets) (sym c.overlap-item.is) (are c.loop-overlap.overlap-index c.overlap-item.result c.loop-overlap-test.true))
    (c.loop-overlap.invariant sets are)

pub returns : goal.returns
returns c = λ sets are. c.loop-overlap.invariant sets are
