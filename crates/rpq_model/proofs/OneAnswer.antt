-- A query has at most one list of answers, and each entry at most one list of events.
use Rattle.std.proofs.Common.{◌≡◌, ℕ, List, sym, ap, ◌∙◌}
use Rattle.rpq_base.specs.declared.data.Entry.{Entry}
use Rattle.rpq_base.specs.declared.data.Pair.{Pair}
use Rattle.rpq_base.specs.declared.data.Event.{Event}
use Rattle.rpq_model.specs.Window.{clock}
use Rattle.rpq_model.specs.Answers.{PathQuery, AreAnswersAt}
use Rattle.rpq_model.specs.Events.{changes, AreEvents}
use Rattle.rpq_base.proofs.Orders.{pair_cmp_total, pair_cmp_exact}
use Rattle.rpq_base.proofs.Sorted.{same_from_members}

-- lists of all answers are equal
pub answers_are_one : (query : PathQuery) (now : ℕ) (entries : List Entry) (pairs others : List Pair) →
    AreAnswersAt query now entries pairs → AreAnswersAt query now entries others → pairs ≡ others
answers_are_one query now entries pairs others pairs_are others_are =
    same_from_members pair_cmp_total pair_cmp_exact pairs others pairs_are.sorted others_are.sorted
    (λ pair. ((λ e. (others_are.exact pair).1 ((pairs_are.exact pair).0 e)), (λ e. (pairs_are.exact pair).1 ((others_are.exact pair).0 e))))

-- lists of events between the same histories are equal
pub events_are_one : (query : PathQuery) (number : ℕ) (before after : List Entry) (events others : List Event) →
    AreEvents query number before after events → AreEvents query number before after others → events ≡ others
events_are_one query number before after events others events_are others_are =
    let old = answers_are_one query (clock before) before events_are.0 others_are.0 events_are.2 others_are.2 in
    let new = answers_are_one query (clock after) after events_are.1 others_are.1 events_are.3 others_are.3 in
    events_are.4
    ∙ (ap (λ (pairs : List Pair). changes number pairs events_are.1) old
    ∙ (ap (changes number others_are.0) new
    ∙ sym others_are.4))
