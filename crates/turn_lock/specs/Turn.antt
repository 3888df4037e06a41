-- The rule of the table under the turns.
-- Word 0 is how many tickets were drawn. Word 1 is how many turns have ended, which is the ticket
-- that is served. The one slot has the value.
use Rattle.std.specs.Prelude.{◌≡◌, ℕ, ◌+◌, ◌%◌, ◌^◌, ◌<◌, ◌≤◌, List, [], ◌∷◌, length, Option, Some}
use Rattle.std.specs.Prelude.{None}
use Rattle.std.specs.List.{All, Contains}
use mathlib.Core.Option.{some}
use lib.ListN.{get_elem?}
use Rattle.atomic_table.specs.Table.{State}
use Rattle.turn_lock.specs.declared.view.PassKnowledge.{PassKnowledge}
use Rattle.turn_lock.specs.declared.view.SeatView.{SeatView}
use Rattle.turn_lock.specs.declared.view.Stage.{Stage}
use Rattle.turn_lock.specs.declared.view.Stage.TheVariants.{Spent, Idle, Waits, Served}
use Rattle.turn_lock.specs.Lines.{Agrees}

module _ {L : Type 0} where
  -- the seat was not joined to another
  abbrev pub IsLive : Stage L → Type 0
  IsLive Spent = ⊥
  IsLive Idle = Unit {0}
  IsLive (Waits ticket) = Unit {0}
  IsLive (Served ticket found) = Unit {0}

  abbrev pub IsServed : Stage L → Type 0
  IsServed Spent = ⊥
  IsServed Idle = ⊥
  IsServed (Waits ticket) = ⊥
  IsServed (Served ticket found) = Unit {0}

  -- how many tickets it has
  abbrev pub tickets : Stage L → ℕ
  tickets Spent = 0
  tickets Idle = 0
  tickets (Waits ticket) = 1
  tickets (Served ticket found) = 1

module _ {L F : Type 0} where
  -- a seat that knows nothing, or the fixed part alone
  abbrev pub blank : Stage L → ℕ → ℕ → Option F → SeatView L F
  blank stage number made fixed = record {
    stage = stage;
    made = made;
    known = record { number = number; seen = []; mine = []; fixed = fixed };
    heard = [];
  }

  abbrev pub spent : SeatView L F
  spent = blank Spent 0 0 None

  -- a new seat, which may make the next one where `made` is how many there are
  abbrev pub fresh : ℕ → ℕ → Option F → SeatView L F
  fresh = blank Idle

  -- how many tickets were drawn whose turn has not ended
  abbrev pub in_turn : List (SeatView L F) → ℕ
  in_turn [] = 0
  in_turn (v ∷ vs) = tickets v.stage + in_turn vs

  abbrev pub NobodyServed : List (SeatView L F) → Type 0
  NobodyServed views =
      (i : ℕ) (v : SeatView L F) → get_elem? views i ≡ some v → IsServed v.stage → ⊥

-- A ticket is of the seat that drew it, and is served once as many turns have ended. Whom it serves
-- found all lines
module _ {L : Type 0} (log : List L) (drawn passed : ℕ) (holder : ℕ → ℕ) (seat : ℕ) where
  abbrev pub Stands : Stage L → Type 0
  Stands Spent = Unit {0}
  Stands Idle = Unit {0}
  Stands (Waits ticket) = (passed ≤ ticket) × (ticket < drawn) × (holder ticket ≡ seat)
  Stands (Served ticket found) =
      (ticket ≡ passed) × (ticket < drawn) × (holder ticket ≡ seat) × (found ≡ log)

-- what the seat knows of a value with this fixed part and these lines is so
abbrev pub IsSo : {L F : Type 0} → (L → ℕ) → F → List L → PassKnowledge L F → Type 0
IsSo author kept log k = Agrees author kept log k.number k.seen k.mine k.fixed

-- what the rule says of one seat
pub record Fits {L F : Type 0} (author : L → ℕ) (kept : F) (log : List L) (drawn passed : ℕ)
    (holder : ℕ → ℕ) (maker : ℕ) (views : List (SeatView L F)) (seat : ℕ) (v : SeatView L F)
    : Type 0 where
  pub stands : Stands log drawn passed holder seat v.stage
  pub makes : 0 < v.made → (seat ≡ maker) × (v.made ≡ length views)
  pub knows : IsLive v.stage → (v.known.number ≡ seat) × IsSo author kept log v.known
  pub heard : (k : PassKnowledge L F) → Contains v.heard k
      → IsSo author kept log k × (get_elem? views k.number ≡ some spent)

-- There is one list of lines, the log. What each seat knows of it is so. The value has these lines,
-- and lies in its slot unless some seat is served
pub record IsKept {T L F : Type 0} (lines : T → List L) (fixed : T → F) (author : L → ℕ) (kept : F)
    (most : ℕ) (s : State (Option T) (SeatView L F)) : Type 0 where
  pub log : List L
  pub drawn : ℕ
  pub passed : ℕ
  pub holder : ℕ → ℕ
  pub maker : ℕ
  pub words : s.words ≡ drawn % 2 ^ 64 ∷ passed % 2 ^ 64 ∷ []
  pub counted : drawn ≡ passed + in_turn s.views
  pub few : length s.views ≤ most
  pub small : most < 2 ^ 32
  pub each : (seat : ℕ) (v : SeatView L F) → get_elem? s.views seat ≡ some v
      → Fits author kept log drawn passed holder maker s.views seat v
  pub home : NobodyServed s.views → (x : T)
      × (get_elem? s.homes 0 ≡ some (some (Some x))) × (lines x ≡ log) × (fixed x ≡ kept)
  pub authors : All (λ line. author line < length s.views) log
