-- The best of a pair is where it stops being an answer.
use Rattle.std.proofs.Common.{◌≡◌, ℕ, ◌+◌, ◌-◌, ◌<◌, ◌≤◌, max, List, Option, Some, None, refl}
use Rattle.std.proofs.Common.{subst, arith}
use Rattle.std.specs.Prelude.{◌↔◌}
use Rattle.rpq_base.specs.declared.data.Edge.{Edge}
use Rattle.rpq_base.specs.declared.data.Entry.{Entry}
use Rattle.rpq_base.specs.declared.data.Pair.{Pair}
use Rattle.rpq_model.specs.declared.mode.Mode.{Mode}
use Rattle.rpq_model.specs.declared.mode.Mode.TheVariants.{Arbitrary, Simple}
use Rattle.rpq_model.specs.Window.{clock}
use Rattle.rpq_model.specs.Answers.{IsAnswerAt, IsAnswer}
use Rattle.rpq_model.specs.AnswerLaws.{query_for}
use Rattle.rpq_model.specs.Ends.{IsUntil}
use Rattle.rpq_model.specs.Query.{Query, language_of, path_query}
use Rattle.rpq_model.proofs.Deadlines.{below_or_not}
use Rattle.rpq_model.proofs.Ends.{ended_at, lasts_at, until_from_clocks}
use Rattle.containment_laws.specs.Accepted.{IsAccepted}
use Rattle.containment_laws.proofs.Agreeing.{answers_agree}
use Rattle.tree_insert.specs.Best.{IsGreatest}
use Rattle.index_laws.specs.Best.{HasWay, IsBestFor}
use Rattle.index_laws.specs.Index.{MayAnswer, IsStoreFor}
use Rattle.index_laws.specs.LawsOfBests.{BestIsUntil}
use Rattle.index_laws.proofs.Ways.{answers_have_ways, way_of_less, way_above_clock}

-- a pair that may be an answer of an accepted query is one where it is one by all paths
by_mode : (query : Query) (history : List Entry) (pair : Pair) (now : ℕ) (mode : Mode) →
    query.mode ≡ mode → IsAccepted query → MayAnswer query pair →
    IsAnswerAt (query_for (language_of query) mode query.window) now history pair
    ↔ IsAnswerAt (query_for (language_of query) Arbitrary query.window) now history pair
by_mode query history pair now Arbitrary is accepted may = ((λ answer. answer), (λ answer. answer))
by_mode query history pair now Simple is accepted may =
    answers_agree (language_of query) (accepted is) query.window now history pair (may is)

module _ (query : Query) (history : List Entry) (store : Edge → Option ℕ) (pair : Pair)
    (is : IsStoreFor query history store) (may : MayAnswer query pair) where
  -- a path spells a word of the query, and its values reach the number
  abbrev Reaches : ℕ → Type 0
  Reaches number = HasWay store (language_of query) pair.from pair.to number

  abbrev IsAnswerNow : ℕ → Type 0
  IsAnswerNow now = IsAnswerAt (path_query query) now history pair

  -- the answers at a clock from that of the history on, by paths
  over_paths : (now : ℕ) → clock history ≤ now →
      IsAnswerNow now ↔ ((number : ℕ) × (now < number) × Reaches number)
  over_paths now le =
      let all = by_mode query history pair now query.mode refl is.accepted may in
      let ways = answers_have_ways (language_of query) query.window now history store pair is.slide
      is.values le in
      ((λ answer. ways.0 (all.0 answer)), (λ found. all.1 (ways.1 found)))

  -- an answer at a clock has a path with values above it
  pub to_way : (now : ℕ) → clock history ≤ now → IsAnswerNow now → Reaches (now + 1)
  to_way now le answer =
      let found = (over_paths now le).0 answer in
      way_of_less store (language_of query) pair.from pair.to (now + 1) found.0
      (omega (arith, found.1)) found.2

  -- and the other way round
  from_way : (now number : ℕ) → clock history ≤ now → now < number → Reaches number →
      IsAnswerNow now
  from_way now number le below way = (over_paths now le).1 (number, below, way)

  -- a path with any values has those above the clock of the history
  above_clock : (number : ℕ) → Reaches number → Reaches (clock history + 1)
  above_clock number way =
      way_above_clock store query.window history (language_of query) pair.from pair.to number
      is.slide is.values way

  pub answer_of_way : (number : ℕ) → Reaches number → IsAnswer (path_query query) history pair
  answer_of_way number way =
      let now = clock history in
      from_way now (now + 1) (omega arith) (omega arith) (above_clock number way)

  pub none : IsBestFor store (language_of query) pair.from pair.to None
      ↔ (IsAnswer (path_query query) history pair → ⊥)
  none = (
    (λ best answer. best (clock history + 1) (to_way (clock history) (omega arith) answer)),
    (λ no number way. no (answer_of_way number way)),
  )

  to_until : (until : ℕ) → IsGreatest Reaches until → IsUntil (path_query query) history pair until
  to_until until best =
      let above = best.most (clock history + 1) (above_clock until best.is) in
      until_from_clocks (path_query query) history pair until (answer_of_way until best.is)
      (λ still.
      let now = max (clock history) until in
      let more = best.most (now + 1) (to_way now (omega arith) still) in
      absurd (omega (arith, more)))
      (λ time less.
      from_way (max (clock history) time) until (omega arith) (omega (arith, less, above)) best.is)

  from_until : (until : ℕ) → IsUntil (path_query query) history pair until →
      IsGreatest Reaches until
  from_until until ends =
      let ended = ended_at (path_query query) history pair until ends in
      let above : clock history + 1 ≤ until = below_or_not until (clock history + 1) (λ less.
      let at_clock : clock history ≡ max (clock history) until = omega (arith, less) in
      ended (subst IsAnswerNow at_clock ends.answer)) in
      let last : max (clock history) (until - 1) ≡ until - 1 = omega (arith, above) in
      let at_end : until ≡ max (clock history) until = omega (arith, above) in
      let before = subst IsAnswerNow last
      (lasts_at (path_query query) history pair until ends (until - 1) (omega (arith, above))) in
      record {
        is = way_of_less store (language_of query) pair.from pair.to until (until - 1 + 1)
            (omega arith) (to_way (until - 1) (omega (arith, above)) before);
        most = λ other way. below_or_not until other (λ more.
            ended (subst IsAnswerNow at_end
            (from_way until other (omega (arith, above)) more way)));
      }

  pub some : (until : ℕ) → IsBestFor store (language_of query) pair.from pair.to (Some until)
      ↔ IsUntil (path_query query) history pair until
  some until = (to_until until, from_until until)

pub best_is_until : BestIsUntil
best_is_until query history store pair is may = record {
  none = none query history store pair is may;
  some = some query history store pair is may;
}
