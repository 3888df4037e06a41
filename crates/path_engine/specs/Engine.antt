-- Engines, and the histories that they stand for.
use Rattle.std.specs.Prelude.{◌≡◌, ℕ, ◌*◌, ◌≤◌, Bool, false, List, length, map}
use Rattle.std.specs.List.{AllZip}
use Rattle.rpq_base.specs.declared.data.Entry.{Entry}
use Rattle.rpq_model.specs.Query.{Query}
use Rattle.delta_forest.specs.Forest.{ForestValue}
use Rattle.query_file.specs.Compiled.{CompiledValue}
use Rattle.query_index.specs.Index.{IsIndexFor}
use Rattle.query_index.specs.IndexValue.{IndexValue}

-- the queries of an engine; how many entries it was fed since it was made or rebuilt; whether
-- memory ran out, after which it answers none until it is rebuilt; the names that have numbers; and
-- for each query its index
pub record EngineValue : Type 0 where
  pub queries : List CompiledValue
  pub position : ℕ
  pub spent : Bool
  pub names : List (List ℕ)
  pub indexes : List IndexValue

-- the definitions of an engine's queries, in order
abbrev pub definitions : EngineValue → List Query
definitions engine = map (λ each. each.def) engine.queries

-- the forest of each of an engine's queries, in order
abbrev pub forests : EngineValue → List ForestValue
forests engine = map (λ (each : IndexValue). each.forest) engine.indexes

-- the engine stands for the history: it isn't spent, at most two names got a number with each entry
-- that it was fed, and it holds each query's index over the history
pub record StandsFor (engine : EngineValue) (history : List Entry) : Type 0 where
  pub unspent : engine.spent ≡ false
  pub few_names : length engine.names ≤ 2 * engine.position
  pub indexes : AllZip
      (λ query index. IsIndexFor query history engine.position engine.names index)
      engine.queries engine.indexes
