-- What indexes are meant to be, as laws: how their edges follow a history, and what they tell.
use Rattle.std.specs.Prelude.{◌≡◌, ℕ, ◌<◌, ◌≤◌, ◌⊎◌, List, [], ◌∷◌, ◌++◌, Option, Some, None}
use Rattle.rpq_base.specs.declared.data.Edge.{Edge}
use Rattle.rpq_base.specs.declared.data.Act.TheVariants.{Delete}
use Rattle.rpq_base.specs.declared.data.Entry.{Entry}
use Rattle.rpq_base.specs.declared.data.Pair.{Pair}
use Rattle.dfa_table.specs.DfaValue.{DfaValue, place_of}
use Rattle.rpq_model.specs.Window.{WindowValue, Inserts}
use Rattle.rpq_model.specs.WindowLaws.{IsTupleDeadline}
use Rattle.rpq_model.specs.Answers.{IsAnswer}
use Rattle.rpq_model.specs.Query.{Query, path_query}
use Rattle.name_table.specs.Names.{KeepsNumbers}
use Rattle.edge_store.specs.declared.edge.EdgeId.{EdgeId}
use Rattle.edge_store.specs.Edges.{Edges, value_of, IsEmpty, Expires, Updates, raised}
use Rattle.index_laws.specs.Store.{clock_after, IsStoreOf}
use Rattle.index_laws.specs.Best.{IsBestAt}
use Rattle.index_laws.specs.Numbered.{HasNumbers, AreNumbersOf, IsFree}
use Rattle.index_laws.specs.Index.{TellsOfPair, HoldsStoreOf, IsIndexOf}

-- ---- one entry more

-- edges that held the store of the history, without those that the clock reaches once the entry has
-- followed
pub record IsExpired (window : WindowValue) (history : List Entry) (last : Entry)
    (names : List (List ℕ)) (dfa : DfaValue) (expired : Edges) : Type 0 where
  pub slide : 0 < window.slide
  pub before : Edges
  pub holds : HoldsStoreOf window history names dfa before
  pub expires : Expires before expired (clock_after history last)

-- the entry's deadline, which is above the new clock
pub record IsDue (window : WindowValue) (history : List Entry) (last : Entry)
    (deadline : ℕ) : Type 0 where
  pub is : IsTupleDeadline window last.tuple deadline
  pub above : clock_after history last < deadline

-- the entry's deadline, which the new clock has reached
pub record IsLate (window : WindowValue) (history : List Entry) (last : Entry)
    (deadline : ℕ) : Type 0 where
  pub is : IsTupleDeadline window last.tuple deadline
  pub reached : deadline ≤ clock_after history last

-- the entry changes no edge by numbers: an insert is late or has a label that the automaton lacks,
-- and the edge of a delete has no numbers
pub record ChangesNone (window : WindowValue) (history : List Entry) (last : Entry)
    (names : List (List ℕ)) (dfa : DfaValue) : Type 0 where
  pub insert : (edge : Edge) → Inserts last.tuple.act edge →
      (place_of dfa edge.label ≡ None) ⊎ ((deadline : ℕ) × IsLate window history last deadline)
  pub delete : (edge : Edge) → last.tuple.act ≡ Delete edge →
      (id : EdgeId) → HasNumbers names dfa edge id → ⊥

-- what has to be done to these edges, so that they hold the store of the history with the entry
pub record TakesEntry (window : WindowValue) (history : List Entry) (last : Entry)
    (names : List (List ℕ)) (dfa : DfaValue) (expired : Edges) : Type 0 where
  -- an insert's edge is raised to its deadline, where that is above the clock
  pub insert : (after : Edges) (edge : Edge) (id : EdgeId) (deadline : ℕ) →
      Inserts last.tuple.act edge → HasNumbers names dfa edge id →
      IsDue window history last deadline →
      Updates expired after id (Some (raised (value_of expired id) deadline)) →
      HoldsStoreOf window (history ++ last ∷ []) names dfa after
  -- a delete's edge is removed
  pub delete : (after : Edges) (edge : Edge) (id : EdgeId) →
      last.tuple.act ≡ Delete edge → HasNumbers names dfa edge id →
      Updates expired after id None →
      HoldsStoreOf window (history ++ last ∷ []) names dfa after
  -- any other entry changes nothing more
  pub other : ChangesNone window history last names dfa →
      HoldsStoreOf window (history ++ last ∷ []) names dfa expired

-- edges follow a history: they hold its store while it is empty, when more names get numbers, and
-- with each entry
pub record StoresFollow : Type 0 where
  pub start : (window : WindowValue) (names : List (List ℕ)) (dfa : DfaValue) (edges : Edges) →
      IsEmpty edges → HoldsStoreOf window [] names dfa edges
  pub more_names : (window : WindowValue) (history : List Entry) (names more : List (List ℕ))
      (dfa : DfaValue) (edges : Edges) →
      KeepsNumbers names more →
      HoldsStoreOf window history names dfa edges → HoldsStoreOf window history more dfa edges
  pub step : (window : WindowValue) (history : List Entry) (last : Entry)
      (names : List (List ℕ)) (dfa : DfaValue) (expired : Edges) →
      IsExpired window history last names dfa expired →
      TakesEntry window history last names dfa expired

-- ---- what an index tells

-- what is kept is the best of the store: for the names that have the numbers, and none for numbers
-- that no name has; where two names have a best, both have numbers
pub record AreBestsOf (names : List (List ℕ)) (dfa : DfaValue) (store : Edge → Option ℕ)
    (kept : ℕ → ℕ → ℕ → Option ℕ) : Type 0 where
  pub named : (from to : List ℕ) (root vertex state : ℕ) →
      AreNumbersOf names from to root vertex →
      IsBestAt store dfa from to state (kept root vertex state)
  pub free : (root vertex state : ℕ) →
      IsFree names root ⊎ IsFree names vertex → kept root vertex state ≡ None
  pub numbered : (from to : List ℕ) (state best : ℕ) →
      IsBestAt store dfa from to state (Some best) →
      (root : ℕ) × (vertex : ℕ) × AreNumbersOf names from to root vertex

-- an index keeps the bests of the store of its history
abbrev pub IndexKeepsBests : Type 0
IndexKeepsBests =
    (query : Query) (history : List Entry) (names : List (List ℕ)) (dfa : DfaValue)
    (kept : ℕ → ℕ → ℕ → Option ℕ) (store : Edge → Option ℕ) →
    IsIndexOf query history names dfa kept → IsStoreOf query.window history store →
    AreBestsOf names dfa store kept

-- what is kept tells of each pair by its numbers, and the vertices of an answer have numbers
pub record TellsAnswers (query : Query) (history : List Entry) (names : List (List ℕ))
    (dfa : DfaValue) (kept : ℕ → ℕ → ℕ → Option ℕ) : Type 0 where
  pub pairs : (pair : Pair) (root vertex : ℕ) →
      AreNumbersOf names pair.from pair.to root vertex →
      TellsOfPair query history pair dfa (kept root vertex)
  pub numbered : (pair : Pair) → IsAnswer (path_query query) history pair →
      (root : ℕ) × (vertex : ℕ) × AreNumbersOf names pair.from pair.to root vertex

-- an index tells the answers of its query, and their ends
abbrev pub IndexTellsAnswers : Type 0
IndexTellsAnswers =
    (query : Query) (history : List Entry) (names : List (List ℕ)) (dfa : DfaValue)
    (kept : ℕ → ℕ → ℕ → Option ℕ) →
    IsIndexOf query history names dfa kept → TellsAnswers query history names dfa kept
