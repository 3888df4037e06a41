-- What bests of stores are meant to say of answers and their ends, as laws.
use Rattle.std.specs.Prelude.{◌≡◌, ℕ, ◌<◌, ◌≤◌, ◌↔◌, List, Option, Some, None, IsTrue}
use Rattle.rpq_base.specs.declared.data.Label.{Label}
use Rattle.rpq_base.specs.declared.data.Edge.{Edge}
use Rattle.rpq_base.specs.declared.data.Entry.{Entry}
use Rattle.rpq_base.specs.declared.data.Pair.{Pair}
use Rattle.dfa_table.specs.DfaValue.{DfaValue, is_final}
use Rattle.rpq_model.specs.declared.mode.Mode.TheVariants.{Arbitrary}
use Rattle.rpq_model.specs.Window.{WindowValue, clock}
use Rattle.rpq_model.specs.Answers.{IsAnswerAt, IsAnswer}
use Rattle.rpq_model.specs.AnswerLaws.{query_for}
use Rattle.rpq_model.specs.Ends.{IsUntil}
use Rattle.rpq_model.specs.Query.{Query, language_of, path_query}
use Rattle.containment_laws.specs.Accepted.{IsAccepted}
use Rattle.index_laws.specs.Store.{IsStoreOf}
use Rattle.index_laws.specs.Best.{HasWay, IsBestFor, IsBestAt}
use Rattle.index_laws.specs.Index.{AcceptsItsWords, MayAnswer, IsStoreFor, TellsOfPair}

-- at any clock from that of the history on, the answers by all paths are the pairs with a path
-- whose word is in the language and all of whose values are above the clock
abbrev pub AnswersHaveWays : (List Label → Type 0) → Type 0
AnswersHaveWays language =
    (window : WindowValue) (now : ℕ) (history : List Entry) (store : Edge → Option ℕ)
    (pair : Pair) →
    0 < window.slide → IsStoreOf window history store → clock history ≤ now →
    IsAnswerAt (query_for language Arbitrary window) now history pair
    ↔ ((number : ℕ) × (now < number) × HasWay store language pair.from pair.to number)

-- the best of a pair over the words of a query is the end of the answer, and none where the pair is
-- no answer
pub record EndsAtBest (query : Query) (history : List Entry) (store : Edge → Option ℕ)
    (pair : Pair) : Type 0 where
  pub none : IsBestFor store (language_of query) pair.from pair.to None
      ↔ (IsAnswer (path_query query) history pair → ⊥)
  pub some : (until : ℕ) →
      IsBestFor store (language_of query) pair.from pair.to (Some until)
      ↔ IsUntil (path_query query) history pair until

-- that is so for each pair that may be an answer of an accepted query
abbrev pub BestIsUntil : Type 0
BestIsUntil =
    (query : Query) (history : List Entry) (store : Edge → Option ℕ) (pair : Pair) →
    IsStoreFor query history store → MayAnswer query pair → EndsAtBest query history store pair

-- each answer of an accepted query has an end
abbrev pub AcceptedAnswersEnd : Type 0
AcceptedAnswersEnd = (query : Query) (history : List Entry) (pair : Pair) →
    0 < query.window.slide → IsAccepted query → IsAnswer (path_query query) history pair →
    (until : ℕ) × IsUntil (path_query query) history pair until

-- a store of a history has one best, or none, from each vertex to each vertex at each state of an
-- automaton
pub record StoresHaveBests : Type 0 where
  pub some : (window : WindowValue) (history : List Entry) (store : Edge → Option ℕ)
      (dfa : DfaValue) (from to : List ℕ) (state : ℕ) →
      0 < window.slide → IsStoreOf window history store →
      (best : Option ℕ) × IsBestAt store dfa from to state best
  pub one : (store : Edge → Option ℕ) (dfa : DfaValue) (from to : List ℕ) (state : ℕ)
      (best other : Option ℕ) →
      IsBestAt store dfa from to state best → IsBestAt store dfa from to state other →
      best ≡ other

-- these are the bests of the pair at the final states
abbrev pub AreBestsAtFinals : (Edge → Option ℕ) → DfaValue → Pair → (ℕ → Option ℕ) → Type 0
AreBestsAtFinals store dfa pair best = (state : ℕ) → IsTrue (is_final dfa state) →
    IsBestAt store dfa pair.from pair.to state (best state)

-- where the automaton accepts the words of an accepted query, these tell of the pair
abbrev pub BestOverFinals : Type 0
BestOverFinals =
    (query : Query) (history : List Entry) (store : Edge → Option ℕ) (dfa : DfaValue)
    (pair : Pair) (best : ℕ → Option ℕ) →
    IsStoreFor query history store → AcceptsItsWords dfa (language_of query) →
    AreBestsAtFinals store dfa pair best → TellsOfPair query history pair dfa best
