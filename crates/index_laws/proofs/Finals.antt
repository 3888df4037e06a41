-- The bests at the final states of an automaton.
use Rattle.std.proofs.Common.{◌≡◌, ℕ, ◌+◌, ◌≤◌, List, Option, subst, arith}
use Rattle.std.specs.Prelude.{◌↔◌}
use Rattle.rpq_base.specs.declared.data.Edge.{Edge}
use Rattle.rpq_base.specs.declared.data.Entry.{Entry}
use Rattle.rpq_base.specs.declared.data.Pair.{Pair}
use Rattle.dfa_table.specs.DfaValue.{DfaValue}
use Rattle.dfa_table.specs.Runs.{LeadsTo}
use Rattle.rpq_model.specs.declared.mode.Mode.{Mode}
use Rattle.rpq_model.specs.Window.{clock}
use Rattle.rpq_model.specs.Path.{word_of}
use Rattle.rpq_model.specs.Answers.{IsAnswer, IsAnswerAt}
use Rattle.rpq_model.specs.AnswerLaws.{query_for}
use Rattle.rpq_model.specs.Ends.{IsUntil}
use Rattle.rpq_model.specs.Query.{Query, language_of, path_query}
use Rattle.rpq_model.proofs.Paths.{some_word}
use Rattle.rpq_model.proofs.Queries.{simple_answers_are_apart}
use Rattle.tree_insert.specs.Best.{IsGreatest}
use Rattle.tree_insert.proofs.Bests.{value_of, greatest_reached, greatest_is}
use Rattle.index_laws.specs.Best.{HasWay}
use Rattle.index_laws.specs.Index.{AcceptsItsWords, MayAnswer, IsStoreFor, IsFinalBest}
use Rattle.index_laws.specs.LawsOfBests.{AreBestsAtFinals, BestOverFinals}
use Rattle.index_laws.proofs.Until.{to_way, answer_of_way, some}

-- an answer may be one
pub answer_may : (query : Query) (history : List Entry) (pair : Pair) →
    IsAnswer (path_query query) history pair → MayAnswer query pair
answer_may query history pair answer is =
    let now = clock history in
    simple_answers_are_apart (language_of query) query.window now history pair
    (subst (λ (mode : Mode).
    IsAnswerAt (query_for (language_of query) mode query.window) now history pair) is answer)

module _ (query : Query) (history : List Entry) (store : Edge → Option ℕ) (dfa : DfaValue)
    (pair : Pair) (best : ℕ → Option ℕ) (is : IsStoreFor query history store)
    (accepts : AcceptsItsWords dfa (language_of query))
    (are : AreBestsAtFinals store dfa pair best) where
  -- a path spells a word of the query, and its values reach the number
  abbrev Reaches : ℕ → Type 0
  Reaches number = HasWay store (language_of query) pair.from pair.to number

  -- and its word leads the automaton to the state
  abbrev ReachesAt : ℕ → ℕ → Type 0
  ReachesAt state number = HasWay store (LeadsTo dfa state) pair.from pair.to number

  -- it leads to a final state, so the best there is at least the number
  to_final : (number : ℕ) → Reaches number →
      (more : ℕ) × IsFinalBest dfa best more × (number ≤ more)
  to_final number way =
      let run = (accepts (word_of way.0)).1 (some_word way.0 way.1.some, way.2) in
      let state = run.0 in
      let found = value_of (best state) number
      (greatest_reached (best state) (ReachesAt state) number (are state run.2)
      (way.0, way.1, run.1)) in
      (found.0, (state, run.2, found.1), found.2)

  -- the best at a final state is that of a path with a word of the query
  from_final : (number : ℕ) → IsFinalBest dfa best number → Reaches number
  from_final number final =
      let state = final.0 in
      let way = greatest_is (best state) (ReachesAt state) number (are state final.1) final.2 in
      (way.0, way.1, ((accepts (word_of way.0)).0 (state, way.2, final.1)).1)

  pub answer : IsAnswer (path_query query) history pair
      ↔ (MayAnswer query pair × ((number : ℕ) × IsFinalBest dfa best number))
  answer = (
    (λ is_answer.
        let may = answer_may query history pair is_answer in
        let now = clock history in
        let way = to_way query history store pair is may now (omega arith) is_answer in
        let found = to_final (now + 1) way in
        (may, (found.0, found.1))),
    (λ both.
        let number = both.1.0 in
        answer_of_way query history store pair is both.0 number (from_final number both.1.1)),
  )

  -- the greatest over the final states is the greatest over the paths
  to_greatest : (until : ℕ) → IsGreatest (IsFinalBest dfa best) until → IsGreatest Reaches until
  to_greatest until greatest = record {
    is = from_final until greatest.is;
    most = λ other way.
        let found = to_final other way in
        omega (arith, found.2, greatest.most found.0 found.1);
  }

  from_greatest : (until : ℕ) → IsGreatest Reaches until → IsGreatest (IsFinalBest dfa best) until
  from_greatest until greatest =
      let found = to_final until greatest.is in
      let low = greatest.most found.0 (from_final found.0 found.1) in
      let same : found.0 ≡ until = omega (arith, found.2, low) in
      record {
        is = subst (IsFinalBest dfa best) same found.1;
        most = λ other final. greatest.most other (from_final other final);
      }

  pub until : (number : ℕ) → IsUntil (path_query query) history pair number
      ↔ (MayAnswer query pair × IsGreatest (IsFinalBest dfa best) number)
  until number = (
    (λ ends.
        let may = answer_may query history pair ends.answer in
        (may, from_greatest number ((some query history store pair is may number).1 ends))),
    (λ both. (some query history store pair is both.0 number).0 (to_greatest number both.1)),
  )

pub best_over_finals : BestOverFinals
best_over_finals query history store dfa pair best is accepts are = record {
  answer = answer query history store dfa pair best is accepts are;
  until = until query history store dfa pair best is accepts are;
}
