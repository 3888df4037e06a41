-- Histories that are seen alike have the same answers, ends and events.
use Rattle.std.proofs.Common.{ℕ, ◌+◌, List, [], ◌∷◌, ◌++◌, refl, sym, subst, inl, inr, arith}
use Rattle.std.specs.Prelude.{◌↔◌, Contains}
use Rattle.rpq_base.proofs.Members.{cons_members}
use Rattle.rpq_base.specs.declared.data.Entry.{Entry}
use Rattle.rpq_base.specs.declared.data.Pair.{Pair}
use Rattle.rpq_base.specs.declared.data.Event.{Event}
use Rattle.rpq_model.specs.Window.{clock, edges_at}
use Rattle.rpq_model.specs.WindowLaws.{OneEntryMore}
use Rattle.rpq_model.specs.Answers.{PathQuery, IsAnswer, IsAnswerAt, AreAnswers}
use Rattle.rpq_model.specs.Ends.{IsUntil, with_tick, tick}
use Rattle.rpq_model.specs.Query.{Query, path_query}
use Rattle.rpq_model.specs.QueryEvents.{AreEventsUnder}
use Rattle.rpq_model.proofs.Paths.{more_edges}
use Rattle.alike_histories.specs.Alike.{SeeAlike}
use Rattle.alike_histories.specs.Laws.{AlikeHaveAnswers, AlikeHaveEnds, AlikeHaveEvents}
use Rattle.alike_histories.proofs.Alike.{one_more_alike, turned, alike_in_either_order}

-- so they have the same answers
pub answers_alike : (query : PathQuery) (history other : List Entry) → SeeAlike query.window history other → (pair : Pair) →
    IsAnswer query history pair ↔ IsAnswer query other pair
answers_alike query history other alike pair =
    let both = alike.edges (clock history) (omega arith) in
    let there = edges_at query.window (clock history) other in (
      (λ answer.
          subst (λ (now : ℕ). IsAnswerAt query now other pair) alike.clocks
          (more_edges (edges_at query.window (clock history) history) there query.language query.mode pair (λ edge. (both edge).0) answer)),
      (λ answer.
          more_edges there (edges_at query.window (clock history) history) query.language query.mode pair (λ edge. (both edge).1)
          (subst (λ (now : ℕ). IsAnswerAt query now other pair) (sym alike.clocks) answer)),
    )

-- with the same ends
pub ends_alike : OneEntryMore → (query : PathQuery) (history other : List Entry) → SeeAlike query.window history other → (pair : Pair) (until : ℕ) →
    IsUntil query history pair until → IsUntil query other pair until
ends_alike more query history other alike pair until is =
    let ticked = λ (time : ℕ).
    answers_alike query (with_tick history time) (with_tick other time)
    (one_more_alike more query.window history other (tick time) alike) pair in
    record {
      answer = (answers_alike query history other alike pair).0 is.answer;
      ended = λ answer. is.ended ((ticked until).1 answer);
      lasts = λ time less. (ticked time).0 (is.lasts time less);
    }

-- so the lists of answers are the same
pub answers_are_alike : (query : Query) (history other : List Entry) (pairs : List Pair) → SeeAlike query.window history other →
    AreAnswers (path_query query) history pairs → AreAnswers (path_query query) other pairs
answers_are_alike query history other pairs alike are = record {
  sorted = are.sorted;
  exact = λ pair.
      let both = answers_alike (path_query query) history other alike pair in (
        (λ member. both.0 ((are.exact pair).0 member)),
        (λ answer. (are.exact pair).1 (both.1 answer)),
      );
}

-- and the events from one history to another are the same
pub events_alike : (queries : List Query) (number : ℕ) (before after other_before other_after : List Entry) (events : List Event) →
    ((query : Query) → Contains queries query → SeeAlike query.window before other_before × SeeAlike query.window after other_after) →
    AreEventsUnder number queries before after events → AreEventsUnder number queries other_before other_after events
events_alike [] number before after other_before other_after events alike are = are
events_alike (query ∷ queries) number before after other_before other_after events alike are =
    let own = are.2 in
    let both = alike query ((cons_members query queries query).1 (inl refl)) in (
      are.0,
      are.1,
      (
        own.0,
        own.1,
        answers_are_alike query before other_before own.0 both.0 own.2,
        answers_are_alike query after other_after own.1 both.1 own.3,
        own.4,
      ),
      events_alike queries (number + 1) before after other_before other_after are.1
          (λ each among. alike each ((cons_members query queries each).1 (inr among))) are.3,
      are.4,
    )

-- ---- the laws

pub alike_have_answers : AlikeHaveAnswers
alike_have_answers query history other alike pair = answers_alike (path_query query) history other alike pair

pub alike_have_ends : OneEntryMore → AlikeHaveEnds
alike_have_ends more query history other alike pair until = (
  ends_alike more (path_query query) history other alike pair until,
  ends_alike more (path_query query) other history (turned query.window history other alike) pair until,
)

pub alike_have_events : OneEntryMore → AlikeHaveEvents
alike_have_events more queries history other alike entry events = (
  events_alike queries 0 history (history ++ entry ∷ []) other (other ++ entry ∷ []) events
      (λ query among. (alike query among, one_more_alike more query.window history other entry (alike query among))),
  events_alike queries 0 other (other ++ entry ∷ []) history (history ++ entry ∷ []) events
      (λ query among.
      let is = alike_in_either_order queries history other alike query among in
      (is, one_more_alike more query.window other history entry is)),
)
