use Rattle.std.proofs.Common.{◌≡◌, ◌∷◌, ◌++◌, map}
use Rattle.std.specs.List.{All}
use Rattle.turn_lock.specs.declared.view.Stage.TheVariants.{Idle}
use Rattle.turn_lock.specs.Passes.{IsAtRest}
use Rattle.turn_lock.specs.Seats.{known_of}
use Rattle.turn_lock.proofs.turns.Turns.gather.Given as goal

abbrev pub invariant-loop-other : goal.invariant-loop-other
invariant-loop-other g l =
    (l.seat.table_id ≡ l.self.id) × (l.seat.me.0.stage ≡ Idle)
    × All (IsAtRest l.self) l.other-iterator.rest.items
    × (map known_of l.fn.passes.items ≡ l.seat.me.0.known ∷
    (l.seat.me.0.heard ++ map known_of l.other-iterator.rest.items))
