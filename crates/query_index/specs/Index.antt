-- The histories that an index stands for.
use Rattle.std.specs.Prelude.{◌≡◌, ℕ, ◌*◌, ◌≤◌, false, List, Option}
use Rattle.rpq_base.specs.declared.data.Edge.{Edge}
use Rattle.rpq_base.specs.declared.data.Entry.{Entry}
use Rattle.rpq_model.specs.Window.{clock}
use Rattle.delta_forest.specs.Forest.{ForestValue, IsIndexed, kept}
use Rattle.index_laws.specs.Store.{IsStoreOf}
use Rattle.index_laws.specs.Index.{HoldsStoreOf}
use Rattle.index_laws.specs.LawsOfIndexes.{AreBestsOf}
use Rattle.query_file.specs.Compiled.{CompiledValue}
use Rattle.query_index.specs.IndexValue.{IndexValue}
use Rattle.query_index.specs.Shown.{HasRows}

-- the index, which was fed so many entries, is that of the query over the history, by the numbers
-- of these names: its clock is that of the history, in the query's window; its forest is over the
-- query's automaton, holds the store of the history and the bests of this, and took at most two
-- changes for each entry that it was fed; and its rows have what the forest shows, but for those of
-- stale roots
pub record IsIndexFor (query : CompiledValue) (history : List Entry) (fed : ℕ)
    (names : List (List ℕ)) (index : IndexValue) : Type 0 where
  pub size : index.clock.size ≡ query.def.window.size
  pub slide : index.clock.slide ≡ query.def.window.slide
  pub time : index.clock.clock ≡ clock history
  pub automaton : index.forest.dfa ≡ query.dfa
  pub holds : HoldsStoreOf query.def.window history names index.forest.dfa index.forest.store
  pub indexed : IsIndexed index.forest
  pub unbroken : index.forest.broken ≡ false
  pub few : index.forest.calls ≤ 2 * fed
  pub rows : HasRows query.def.mode names index

-- the forest is over the query's automaton, and keeps the bests of the store of the history
pub record IsForestFor (query : CompiledValue) (history : List Entry) (names : List (List ℕ))
    (forest : ForestValue) : Type 0 where
  pub automaton : forest.dfa ≡ query.dfa
  pub bests : (store : Edge → Option ℕ) → IsStoreOf query.def.window history store →
      AreBestsOf names forest.dfa store (kept forest)
