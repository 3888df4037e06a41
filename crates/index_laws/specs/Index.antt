-- Indexes of queries: stores of edges with the best of each root, vertex and state.
use Rattle.std.specs.Prelude.{◌≡◌, ◌≢◌, ℕ, ◌<◌, ◌↔◌, List, Option, Some, IsTrue}
use Rattle.rpq_base.specs.declared.data.Label.{Label}
use Rattle.rpq_base.specs.declared.data.Edge.{Edge}
use Rattle.rpq_base.specs.declared.data.Entry.{Entry}
use Rattle.rpq_base.specs.declared.data.Pair.{Pair}
use Rattle.path_syntax.specs.Laws.{nonempty}
use Rattle.dfa_table.specs.DfaValue.{DfaValue, step_of, is_final}
use Rattle.dfa_table.specs.Runs.{Accepts}
use Rattle.rpq_model.specs.declared.mode.Mode.TheVariants.{Simple}
use Rattle.rpq_model.specs.Window.{WindowValue}
use Rattle.rpq_model.specs.Answers.{IsAnswer}
use Rattle.rpq_model.specs.Ends.{IsUntil}
use Rattle.rpq_model.specs.Query.{Query, language_of, path_query}
use Rattle.containment_laws.specs.Accepted.{IsAccepted}
use Rattle.edge_store.specs.Edges.{Edges, value_of}
use Rattle.tree_insert.specs.Best.{IsBest, IsGreatest}
use Rattle.index_laws.specs.Store.{IsStoreOf}
use Rattle.index_laws.specs.Numbered.{IsByNumbers}

-- ---- queries

-- the automaton accepts exactly the nonempty words of the language
abbrev pub AcceptsItsWords : DfaValue → (List Label → Type 0) → Type 0
AcceptsItsWords dfa language = (word : List Label) → Accepts dfa word ↔ nonempty language word

-- the pair may be an answer: a query for simple paths has answers of two vertices alone
abbrev pub MayAnswer : Query → Pair → Type 0
MayAnswer query pair = query.mode ≡ Simple → pair.from ≢ pair.to

-- the store is that of the history for an accepted query
pub record IsStoreFor (query : Query) (history : List Entry)
    (store : Edge → Option ℕ) : Type 0 where
  pub slide : 0 < query.window.slide
  pub accepted : IsAccepted query
  pub values : IsStoreOf query.window history store

-- the number is the best of one of the final states
abbrev pub IsFinalBest : DfaValue → (ℕ → Option ℕ) → ℕ → Type 0
IsFinalBest dfa best number =
    (state : ℕ) × IsTrue (is_final dfa state) × (best state ≡ Some number)

-- the bests of a pair at the states of an automaton tell of it: it is an answer exactly where it
-- may be one and some final state has a best, and it ends at the greatest of these
pub record TellsOfPair (query : Query) (history : List Entry) (pair : Pair) (dfa : DfaValue)
    (best : ℕ → Option ℕ) : Type 0 where
  pub answer : IsAnswer (path_query query) history pair
      ↔ (MayAnswer query pair × ((number : ℕ) × IsFinalBest dfa best number))
  pub until : (until : ℕ) → IsUntil (path_query query) history pair until
      ↔ (MayAnswer query pair × IsGreatest (IsFinalBest dfa best) until)

-- ---- indexes

-- the edges with their values are, by numbers, the store of the history
pub record HoldsStoreOf (window : WindowValue) (history : List Entry) (names : List (List ℕ))
    (dfa : DfaValue) (edges : Edges) : Type 0 where
  pub store : Edge → Option ℕ
  pub is : IsStoreOf window history store
  pub numbers : IsByNumbers names dfa store (value_of edges)

-- what is kept for each root, vertex and state is the best over the edges with their values
abbrev pub KeepsBests : Edges → DfaValue → (ℕ → ℕ → ℕ → Option ℕ) → Type 0
KeepsBests edges dfa kept = (root vertex state : ℕ) →
    IsBest (value_of edges) (step_of dfa) root vertex state (kept root vertex state)

-- an index of an accepted query over a history: an automaton of the query, edges that are, by the
-- numbers of these names, the store of the history, and their bests
pub record IsIndexOf (query : Query) (history : List Entry) (names : List (List ℕ))
    (dfa : DfaValue) (kept : ℕ → ℕ → ℕ → Option ℕ) : Type 0 where
  pub slide : 0 < query.window.slide
  pub accepted : IsAccepted query
  pub words : AcceptsItsWords dfa (language_of query)
  pub edges : Edges
  pub holds : HoldsStoreOf query.window history names dfa edges
  pub bests : KeepsBests edges dfa kept
