-- The world of a history: all that its streams, the engine and the readers have done.
use Rattle.std.specs.Prelude.{ℕ, Bool, false, List, []}
use Rattle.rpq_base.specs.declared.data.Entry.{Entry}
use Rattle.rpq_base.specs.declared.data.Pair.{Pair}
use Rattle.rpq_base.specs.declared.data.Event.{Event}
use Rattle.rpq_model.specs.Events.{held_from}
use Rattle.rpq_model.specs.Query.{Query}
use Rattle.history_model.specs.declared.line.Line.{Line}

-- what a history is made with: its queries, the number of its streams, and how many entries it
-- takes
pub record Terms : Type 0 where
  pub queries : List Query
  pub streams : ℕ
  pub cap : ℕ

-- sets of pairs, one for each query under its place: whether the query's set has the pair
abbrev pub Pairs : Type 0
Pairs = ℕ → Pair → Bool

-- the empty sets
abbrev pub no_pairs : Pairs
no_pairs query pair = false

-- the sets after these events: an addition puts its pair in, a retraction takes it out
abbrev pub pairs_after : Pairs → List Event → Pairs
pairs_after pairs events query pair = held_from (pairs query pair) query pair events

-- a position, which counts entries, and the pairs kept there
pub record Snapshot : Type 0 where
  pub position : ℕ
  pub pairs : Pairs

-- an entry and the events that it brought
pub record Block : Type 0 where
  pub entry : Entry
  pub events : List Event

-- the lines; how many entries the engine was fed; the pairs that it keeps; what it published last;
-- what each reader, by its number, got last; and the blocks that the engine emitted
pub record World : Type 0 where
  pub lines : List Line
  pub fed : ℕ
  pub kept : Pairs
  pub shown : Snapshot
  pub readers : ℕ → Snapshot
  pub blocks : List Block

-- no pairs, at position 0
abbrev pub first_snapshot : Snapshot
first_snapshot = record { position = 0; pairs = no_pairs }

-- the world at first
abbrev pub start : World
start = record {
  lines = [];
  fed = 0;
  kept = no_pairs;
  shown = first_snapshot;
  readers = λ reader. first_snapshot;
  blocks = [];
}
