-- What best paths by numbers are meant to say of paths by names, as laws.
use Rattle.std.specs.Prelude.{◌≡◌, ◌≢◌, ℕ, ◌<◌, List, [], ◌∷◌, map, All, Any, Option, Some, IsTrue}
use Rattle.std.specs.List.{AllZip}
use Rattle.rpq_base.specs.declared.data.Edge.{Edge}
use Rattle.rpq_base.specs.declared.data.Entry.{Entry}
use Rattle.rpq_base.specs.declared.data.Pair.{Pair}
use Rattle.dfa_table.specs.DfaValue.{DfaValue, is_final}
use Rattle.dfa_table.specs.Runs.{LeadsTo, walk}
use Rattle.rpq_model.specs.declared.mode.Mode.TheVariants.{Arbitrary}
use Rattle.rpq_model.specs.Path.{Leads, word_of}
use Rattle.rpq_model.specs.Window.{clock, edges_at}
use Rattle.rpq_model.specs.Answers.{Joins}
use Rattle.rpq_model.specs.Ends.{IsUntil}
use Rattle.rpq_model.specs.Query.{Query, language_of, path_query}
use Rattle.edge_store.specs.declared.edge.EdgeId.{EdgeId}
use Rattle.edge_store.specs.Edges.{Edges, value_of}
use Rattle.tree_insert.specs.Best.{IsAtLeast, IsLeast}
use Rattle.index_laws.specs.Store.{IsStoreOf}
use Rattle.index_laws.specs.Numbered.{HasNumbers, AreNumbersOf, IsByNumbers}
use Rattle.index_laws.specs.Index.{AcceptsItsWords, HoldsStoreOf}

-- ---- by numbers

-- edges by numbers that lead from one vertex to another: each begins where the one before it ends
abbrev pub LeadsBy : ℕ → List EdgeId → ℕ → Type 0
LeadsBy from [] to = from ≡ to
LeadsBy from (id ∷ ids) to = (id.from ≡ from) × LeadsBy id.to ids to

-- the numbers of their labels, in order
abbrev pub labels_of : List EdgeId → List ℕ
labels_of ids = map (λ (id : EdgeId). id.label) ids

-- a path by numbers from the root to the vertex, which leads the automaton from its start to the
-- state, and the least value of which is the number
pub record IsPathBy (dfa : DfaValue) (values : EdgeId → Option ℕ) (root vertex state number : ℕ)
    (ids : List EdgeId) : Type 0 where
  pub some : ids ≢ []
  pub leads : LeadsBy root ids vertex
  pub runs : walk dfa 0 (labels_of ids) ≡ Some state
  pub least : IsLeast values ids number

-- ---- by names

-- the least value that a store has for the edges of a path: one of them has it, and none has a
-- lower one
pub record IsLeastIn (store : Edge → Option ℕ) (path : List Edge) (number : ℕ) : Type 0 where
  pub met : Any (λ edge. store edge ≡ Some number) path
  pub least : All (λ edge. IsAtLeast number (store edge)) path

-- a path from one vertex to another, whose word leads the automaton to the state, and the least
-- value of which is the number
pub record IsPathFor (dfa : DfaValue) (store : Edge → Option ℕ) (from to : List ℕ)
    (state number : ℕ) (path : List Edge) : Type 0 where
  pub some : path ≢ []
  pub leads : Leads from path to
  pub runs : LeadsTo dfa state (word_of path)
  pub least : IsLeastIn store path number

-- ---- edge by edge

-- each edge has the numbers at its place
abbrev pub HaveNumbers : List (List ℕ) → DfaValue → List Edge → List EdgeId → Type 0
HaveNumbers names dfa path ids = AllZip (HasNumbers names dfa) path ids

-- where the values by numbers are those of the store, a path by numbers is, edge by edge, one for
-- the names that have the numbers
abbrev pub PathsByNumbers : Type 0
PathsByNumbers =
    (names : List (List ℕ)) (dfa : DfaValue) (store : Edge → Option ℕ)
    (values : EdgeId → Option ℕ) (from to : List ℕ) (root vertex state number : ℕ)
    (path : List Edge) (ids : List EdgeId) →
    IsByNumbers names dfa store values → AreNumbersOf names from to root vertex →
    HaveNumbers names dfa path ids → IsPathBy dfa values root vertex state number ids →
    IsPathFor dfa store from to state number path

-- ---- what shows an answer

-- a path of edges of the query's window joins the pair; its word is in the query's language, and
-- the least of its values in the store of the history is the end of the answer. It may visit a
-- vertex twice, whichever paths the query takes
pub record IsBestPathOf (query : Query) (history : List Entry) (pair : Pair)
    (path : List Edge) : Type 0 where
  pub joins : Joins (edges_at query.window (clock history) history) (language_of query) Arbitrary
      pair path
  pub until : ℕ
  pub is_until : IsUntil (path_query query) history pair until
  pub least : (store : Edge → Option ℕ) → IsStoreOf query.window history store →
      IsLeastIn store path until

-- where the edges hold the store of the history, by the numbers of these names, and the automaton
-- accepts the words of the query, a path to a final state whose least value is the end of an answer
-- shows this answer
abbrev pub PathsShowAnswers : Type 0
PathsShowAnswers =
    (query : Query) (history : List Entry) (names : List (List ℕ)) (dfa : DfaValue) (edges : Edges)
    (pair : Pair) (root vertex state until : ℕ) (path : List Edge) (ids : List EdgeId) →
    0 < query.window.slide → AcceptsItsWords dfa (language_of query) →
    HoldsStoreOf query.window history names dfa edges →
    AreNumbersOf names pair.from pair.to root vertex → HaveNumbers names dfa path ids →
    IsPathBy dfa (value_of edges) root vertex state until ids → IsTrue (is_final dfa state) →
    IsUntil (path_query query) history pair until → IsBestPathOf query history pair path
