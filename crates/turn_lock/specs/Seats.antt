-- A pass as its seat.
use Rattle.std.specs.Prelude.{◌≡◌, ℕ, List, [], ◌∷◌, Option, Some, None}
use Rattle.atomic_table.specs.Seated.{TableId}
use Rattle.turn_lock.specs.declared.view.PassKnowledge.{PassKnowledge}
use Rattle.turn_lock.specs.declared.view.SeatView.{SeatView}
use Rattle.turn_lock.specs.declared.view.Stage.{Stage}
use Rattle.turn_lock.specs.declared.view.Stage.TheVariants.{Spent, Idle, Waits, Served}
use Rattle.turn_lock.specs.Passes.{PassValue}

abbrev pub found_of : {L : Type 0} → Stage L → Option (List L)
found_of Spent = None
found_of Idle = None
found_of (Waits ticket) = None
found_of (Served ticket found) = Some found

abbrev pub pass_of : {L F : Type 0} → TableId → SeatView L F → PassValue L F
pass_of id v = record {
  id = id;
  number = v.known.number;
  seen = v.known.seen;
  mine = v.known.mine;
  fixed = v.known.fixed;
  found = found_of v.stage;
}

-- between two calls a seat holds no slot, or in its turn the empty one
abbrev pub IsBetweenSteps : {T L : Type 0} → Stage L → List (ℕ × Option T) → Type 0
IsBetweenSteps Spent held = ⊥
IsBetweenSteps Idle held = held ≡ []
IsBetweenSteps (Waits ticket) held = ⊥
IsBetweenSteps (Served ticket found) held = held ≡ (0, None) ∷ []

-- what the pass knows, as its seat has it
abbrev pub known_of : {L F : Type 0} → PassValue L F → PassKnowledge L F
known_of pass = record {
  number = pass.number;
  seen = pass.seen;
  mine = pass.mine;
  fixed = pass.fixed;
}
