-- What holds of every engine. No public contract cites this file.
use Rattle.std.specs.Prelude.{◌≡◌, ℕ, ◌≤◌, ◌^◌, false, List, length}
use Rattle.rpq_base.specs.declared.data.Entry.{Entry}
use Rattle.path_engine.specs.Engine.{EngineValue, StandsFor}
use Rattle.path_engine.specs.Labels.{IsTableOf, Table}

-- it has 1 to 64 queries and the table of their labels, it knows how many names have numbers, it
-- was fed at most 2^30 entries, and while it isn't spent it stands for some history
pub record IsSound (engine : EngineValue) (count : ℕ) (labels : Table) : Type 0 where
  pub some : 1 ≤ length engine.queries
  pub few : length engine.queries ≤ 64
  pub table : IsTableOf engine.queries labels
  pub named : count ≡ length engine.names
  pub short : engine.position ≤ 2 ^ 30
  pub stands : engine.spent ≡ false → (history : List Entry) × StandsFor engine history
