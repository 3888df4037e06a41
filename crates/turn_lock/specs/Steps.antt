-- What each step tells of the seat before, the number found, and the seat after.
use Rattle.std.specs.Prelude.{◌≡◌, ◌≢◌, ℕ, ◌+◌, ◌%◌, ◌^◌, List, ◌∷◌, ◌++◌, length, drop, Option}
use Rattle.std.specs.Prelude.{Some}
use Rattle.atomic_table.specs.Table.{Me}
use Rattle.turn_lock.specs.declared.view.SeatView.{SeatView}
use Rattle.turn_lock.specs.declared.view.Stage.{Stage}
use Rattle.turn_lock.specs.declared.view.Stage.TheVariants.{Spent, Idle, Waits, Served}
use Rattle.turn_lock.specs.Turn.{fresh, IsSo}

module _ {L F : Type 0} where
  abbrev pub staged : Stage L → SeatView L F → SeatView L F
  staged stage v = record v { stage = stage }

  -- the view after a turn that found some lines and leaves these
  abbrev pub returned : List L → List L → SeatView L F → SeatView L F
  returned found all v = record v {
    stage = Idle;
    known = record v.known { seen = all; mine = v.known.mine ++ drop (length found) all };
  }

  -- the right to make the next seat goes on to the new one
  abbrev pub first_part : SeatView L F → SeatView L F
  first_part v = record v { made = 0 }

  abbrev pub next_seat : SeatView L F → SeatView L F
  next_seat v = fresh v.made (v.made + 1) v.known.fixed

  -- the view with what the other knew
  abbrev pub with_other : SeatView L F → SeatView L F → SeatView L F
  with_other v w = record v { made = 0; heard = v.heard ++ w.known ∷ w.heard }

-- a seat with what it holds
abbrev Seated : Type 0 → Type 0 → Type 0 → Type 0
Seated T L F = Me (Option T) (SeatView L F)

module _ {T L F : Type 0} where
  -- a ticket was drawn
  abbrev pub Draws : Seated T L F → ℕ → Seated T L F → Type 0
  Draws m n you =
      (ticket : ℕ) × (ticket % 2 ^ 64 ≡ n) × (you ≡ (staged (Waits ticket) m.0, m.1))

  module _ (lines : T → List L) (fixed : T → F) (author : L → ℕ) where
    -- the value comes out, and what the seat knows of it is so
    abbrev pub Lifts : ℕ → Seated T L F → Seated T L F → Type 0
    Lifts ticket m you =
        (x : T) × (you ≡ (staged (Served ticket (lines x)) m.0, (0, Some x) ∷ m.1))
        × IsSo author (fixed x) (lines x) m.0.known

    -- it does where its ticket is served, and else the seat stays as it is
    abbrev pub LooksAt : Stage L → Seated T L F → ℕ → Seated T L F → Type 0
    LooksAt (Waits ticket) m n you =
        (n ≡ ticket % 2 ^ 64 → Lifts ticket m you) × (n ≢ ticket % 2 ^ 64 → you ≡ m)
    LooksAt Spent m n you = Unit {0}
    LooksAt Idle m n you = Unit {0}
    LooksAt (Served ticket found) m n you = Unit {0}

  module _ (lines : T → List L) where
    -- the value goes back, and the turn ends
    abbrev pub GivesBack : Stage L → List (ℕ × Option T) → Seated T L F → Seated T L F → Type 0
    GivesBack (Served ticket found) ((slot, Some x) ∷ held) m you =
        you ≡ (returned found (lines x) m.0, held)
    GivesBack _ _ m you = Unit {0}
