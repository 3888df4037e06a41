-- What holds of indexes and their forests, as laws.
use Rattle.std.specs.Prelude.{◌≡◌, ℕ, List, [], Option, Some}
use Rattle.rpq_base.specs.declared.data.Edge.{Edge}
use Rattle.rpq_base.specs.declared.data.Entry.{Entry}
use Rattle.name_table.specs.Names.{KeepsNumbers}
use Rattle.delta_forest.specs.Forest.{ForestValue}
use Rattle.index_laws.specs.Best.{IsBestAt}
use Rattle.index_laws.specs.Store.{IsStoreOf}
use Rattle.query_file.specs.Compiled.{CompiledValue}
use Rattle.query_index.specs.Index.{IsForestFor, IsIndexFor}
use Rattle.query_index.specs.IndexValue.{IndexValue}

-- an index of a query over a history is one too once more names have numbers
abbrev pub MoreNamesKeepIndexes : Type 0
MoreNamesKeepIndexes =
    (query : CompiledValue) (history : List Entry) (fed : ℕ) (names more : List (List ℕ))
    (index : IndexValue) → KeepsNumbers names more → IsIndexFor query history fed names index →
    IsIndexFor query history fed more index

-- a forest without trees is that of a query over a history only where no vertex is reached by the
-- edges of the history's store
abbrev pub BareForestsReachNothing : Type 0
BareForestsReachNothing =
    (query : CompiledValue) (history : List Entry) (names : List (List ℕ)) (forest : ForestValue)
    (store : Edge → Option ℕ) → IsForestFor query history names forest → forest.trees ≡ [] →
    IsStoreOf query.def.window history store → (from to : List ℕ) (state best : ℕ) →
    IsBestAt store forest.dfa from to state (Some best) → ⊥
