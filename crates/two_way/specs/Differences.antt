-- Events as the difference of two families of sets of pairs.
use Rattle.std.specs.Prelude.{◌≡◌, ℕ, ◌+◌, ◌≤◌, ◌↔◌, List, [], ◌∷◌, Contains}
use Rattle.std.specs.List.Sorted.{IsStrictlySortedBy}
use Rattle.std.specs.declared.cmp.Ordering.{Ordering}
use Rattle.std.specs.Ordering.{ordering_then, nat_cmp, bool_cmp}
use Rattle.rpq_base.specs.Order.{pair_cmp}
use Rattle.rpq_base.specs.declared.data.Entry.{Entry}
use Rattle.rpq_base.specs.declared.data.Pair.{Pair}
use Rattle.rpq_base.specs.declared.data.Event.{Event}
use Rattle.rpq_model.specs.Answers.{AreAnswers}
use Rattle.rpq_model.specs.EventLaws.{IsChange}
use Rattle.rpq_model.specs.Query.{Query, path_query}

-- the pairs of each query, by its number
abbrev pub Family : Type 0
Family = ℕ → List Pair

-- the order of events: by query, retractions before additions, then by pair
abbrev pub event_cmp : Event → Event → Ordering
event_cmp first second =
    ordering_then (ordering_then (nat_cmp first.query second.query)
    (bool_cmp first.added second.added))
    (pair_cmp first.pair second.pair)

-- the events are exactly the changes from one family to another, in their order
pub record AreDifference (before after : Family) (events : List Event) : Type 0 where
  pub sorted : IsStrictlySortedBy event_cmp events
  pub exact : (each : Event) → Contains events each
      ↔ IsChange (Contains (before each.query)) (Contains (after each.query)) each

-- the family has the answers of these queries over the history, those of the first query under this
-- number, of the next one under the next, and nothing under the numbers behind them
abbrev pub AreAnswersUnder : ℕ → List Query → List Entry → Family → Type 0
AreAnswersUnder number [] history family = (later : ℕ) → number ≤ later → family later ≡ []
AreAnswersUnder number (query ∷ queries) history family =
    AreAnswers (path_query query) history (family number)
    × AreAnswersUnder (number + 1) queries history family
