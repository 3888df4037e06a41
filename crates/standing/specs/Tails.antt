-- The object that keeps the last events.
use Rattle.std.specs.Prelude.{ℕ, ◌-◌, false, List, None, drop, length}
use Rattle.rpq_base.specs.declared.data.Event.{Event}
use Rattle.standing.specs.Objects.{Numbers, ObjectValue}
use Rattle.standing.specs.Said.{tail_text}

-- the queries that it wants, how many events it heard, how many it keeps at most, and those that it
-- keeps, oldest first
pub record TailValue : Type 0 where
  pub wanted : List ℕ
  pub numbers : Numbers
  pub most : ℕ
  pub kept : List Event

-- the same as an object
abbrev pub tail_object : TailValue → ObjectValue
tail_object tail = record {
  wanted = tail.wanted;
  numbers = tail.numbers;
  heard = None;
  said = tail_text tail.kept;
  gone = false;
}

-- the last ones of a list, at most so many
abbrev pub last_of : {X : Type 0} → ℕ → List X → List X
last_of count list = drop (length list - count) list
