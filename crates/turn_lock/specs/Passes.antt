-- Turns and passes, as contracts see them.
use Rattle.std.specs.Prelude.{◌≡◌, ◌<◌, ℕ, List, [], ◌++◌, map, length, drop, Option, Some, None}
use Rattle.std.specs.List.{Contains, range_with_len}
use Rattle.std.specs.Option.{unwrap_or}
pub use Rattle.atomic_table.specs.Seated.{TableId}
use Rattle.turn_lock.specs.Lines.{Adds, Agrees}

-- which turns they are, and how many passes they have
pub record TurnsValue : Type 0 where
  pub id : TableId
  pub passes : ℕ

-- `found` is nothing where the pass holds no turn, and else the lines that its turn found
pub record PassValue (L F : Type 0) : Type 0 where
  pub id : TableId
  pub number : ℕ
  pub seen : List L
  pub mine : List L
  pub fixed : Option F
  pub found : Option (List L)

module _ {L F : Type 0} where
  abbrev pub newcomer : TableId → F → ℕ → PassValue L F
  newcomer id fixed number = record {
    id = id;
    number = number;
    seen = [];
    mine = [];
    fixed = Some fixed;
    found = None;
  }

  -- the passes of new turns, in the order of their numbers
  abbrev pub newcomers : TableId → F → ℕ → List (PassValue L F)
  newcomers id fixed passes = map (newcomer id fixed) (range_with_len 0 passes)

  -- the pass, in a turn that found these lines
  abbrev pub holding : PassValue L F → List L → PassValue L F
  holding pass found = record pass { found = Some found }

  -- the pass after its turn: it has seen all lines, and those that the turn added are its own
  abbrev pub learned : PassValue L F → List L → PassValue L F
  learned pass lines = record pass {
    seen = lines;
    mine = pass.mine ++ drop (length (unwrap_or pass.found [])) lines;
    found = None;
  }

  -- the pass holds a turn, and the lines are those that the turn found, and then some of its own
  abbrev pub AddsInTurn : (L → ℕ) → PassValue L F → List L → Type 0
  AddsInTurn author pass lines =
      (found : List L) × (pass.found ≡ Some found) × Adds author pass.number found lines

  -- the pass is one of these turns, and holds none of them
  abbrev pub IsAtRest : TurnsValue → PassValue L F → Type 0
  IsAtRest turns pass = (pass.id ≡ turns.id) × (pass.found ≡ None)

  -- each number below the count has a pass
  abbrev pub AreAll : ℕ → List (PassValue L F) → Type 0
  AreAll count passes =
      (number : ℕ) → number < count
      → (pass : PassValue L F) × Contains passes pass × (pass.number ≡ number)

  -- what the pass knows of a value with this fixed part and these lines is so
  abbrev pub Knows : (L → ℕ) → F → List L → PassValue L F → Type 0
  Knows author kept lines pass = Agrees author kept lines pass.number pass.seen pass.mine pass.fixed
