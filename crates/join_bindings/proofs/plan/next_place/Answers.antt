use Rattle.std.proofs.Common.{◌∷◌}
use Rattle.join_bindings.specs.Partial.{atoms_at}
use Rattle.join_bindings.proofs.Turning.{is_next}
use Rattle.join_bindings.proofs.plan.next_place.Goals as goal

pub returns-clause-least : goal.returns-clause-least
returns-clause-least c =
    is_next (c.args.first.now ∷ atoms_at c.args.plan.now) c.args.left.now c.loop-place.best c.loop-place.place c.loop-place-test.false
    c.loop-place.invariant.within c.loop-place.invariant.least
