-- An index tells the answers of its query.
use Rattle.std.proofs.Common.{ℕ, ◌+◌, List, Option, ◌∙◌, arith}
use Rattle.rpq_base.specs.declared.data.Edge.{Edge}
use Rattle.rpq_base.specs.declared.data.Entry.{Entry}
use Rattle.rpq_base.specs.declared.data.Pair.{Pair}
use Rattle.dfa_table.specs.DfaValue.{DfaValue}
use Rattle.rpq_model.specs.Path.{word_of}
use Rattle.rpq_model.specs.Window.{WindowValue, clock}
use Rattle.rpq_model.specs.Answers.{IsAnswer}
use Rattle.rpq_model.specs.Query.{Query, path_query}
use Rattle.rpq_model.proofs.Paths.{some_word}
use Rattle.edge_store.specs.Edges.{Edges, value_of}
use Rattle.index_laws.specs.Store.{IsStoreOf}
use Rattle.index_laws.specs.Numbered.{AreNumbersOf, IsByNumbers}
use Rattle.index_laws.specs.Index.{HoldsStoreOf, IsStoreFor, TellsOfPair, IsIndexOf}
use Rattle.index_laws.specs.LawsOfNumbers.{HaveSameBests}
use Rattle.index_laws.specs.LawsOfIndexes.{AreBestsOf, TellsAnswers, IndexKeepsBests}
use Rattle.index_laws.specs.LawsOfIndexes.{IndexTellsAnswers}
use Rattle.index_laws.proofs.Stores.{histories_have_stores}
use Rattle.index_laws.proofs.Until.{to_way}
use Rattle.index_laws.proofs.Finals.{answer_may, best_over_finals}
use Rattle.index_laws.proofs.Numbers.{way_numbered, best_by_numbers}

-- the values by numbers are those of any store of the history
pub any_store : (window : WindowValue) (history : List Entry) (names : List (List ℕ))
    (dfa : DfaValue) (edges : Edges) (store : Edge → Option ℕ) →
    HoldsStoreOf window history names dfa edges → IsStoreOf window history store →
    IsByNumbers names dfa store (value_of edges)
any_store window history names dfa edges store holds store_is =
    let numbers = holds.numbers in
    let same = λ (edge : Edge).
    histories_have_stores.one window history holds.store store holds.is store_is edge in
    record {
      same = λ edge id has. numbers.same edge id has ∙ same edge;
      edges = numbers.edges;
      numbers = λ edge value label there placed.
          numbers.numbers edge value label (same edge ∙ there) placed;
    }

module _ (query : Query) (history : List Entry) (names : List (List ℕ)) (dfa : DfaValue)
    (kept : ℕ → ℕ → ℕ → Option ℕ) (is : IsIndexOf query history names dfa kept) where
  -- the bests by numbers are those of any store of the history
  same_bests : (store : Edge → Option ℕ) → IsStoreOf query.window history store →
      HaveSameBests names dfa store (value_of is.edges)
  same_bests store store_is =
      best_by_numbers names dfa store (value_of is.edges)
      (any_store query.window history names dfa is.edges store is.holds store_is)

  pub bests_of : (store : Edge → Option ℕ) → IsStoreOf query.window history store →
      AreBestsOf names dfa store kept
  bests_of store store_is =
      let same = same_bests store store_is in
      record {
        named = λ from to root vertex state have.
            (same.named from to root vertex state (kept root vertex state) have).0
            (is.bests root vertex state);
        free = λ root vertex state none.
            same.free root vertex state (kept root vertex state) none (is.bests root vertex state);
        numbered = same.numbered;
      }

  -- ---- answers

  for_query : IsStoreFor query history is.holds.store
  for_query = record { slide = is.slide; accepted = is.accepted; values = is.holds.is }

  -- an answer has a path that the automaton goes along, so its vertices have numbers
  answer_numbered : (pair : Pair) → IsAnswer (path_query query) history pair →
      (root : ℕ) × (vertex : ℕ) × AreNumbersOf names pair.from pair.to root vertex
  answer_numbered pair answer =
      let now = clock history in
      let store = is.holds.store in
      let may = answer_may query history pair answer in
      let has = to_way query history store pair for_query may now (omega arith) answer in
      let path = has.0 in
      let way = has.1 in
      let run = (is.words (word_of path)).1 (some_word path way.some, has.2) in
      way_numbered names dfa store (value_of is.edges) is.holds.numbers (now + 1) path pair.from
      pair.to run.0 way.some way.leads way.least run.1

  -- the bests of the pair with these numbers
  tells_pair : (pair : Pair) (root vertex : ℕ) → AreNumbersOf names pair.from pair.to root vertex →
      TellsOfPair query history pair dfa (kept root vertex)
  tells_pair pair root vertex have =
      let bests = bests_of is.holds.store is.holds.is in
      best_over_finals query history is.holds.store dfa pair (kept root vertex) for_query is.words
      (λ state final. bests.named pair.from pair.to root vertex state have)

  pub tell_answers : TellsAnswers query history names dfa kept
  tell_answers = record { pairs = tells_pair; numbered = answer_numbered }

pub index_keeps_bests : IndexKeepsBests
index_keeps_bests query history names dfa kept store is store_is =
    bests_of query history names dfa kept is store store_is

pub index_tells_answers : IndexTellsAnswers
index_tells_answers query history names dfa kept is = tell_answers query history names dfa kept is
