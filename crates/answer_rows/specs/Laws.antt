-- What the definitions are meant to say, as laws.
use Rattle.std.specs.Prelude.{◌≡◌, ℕ, ◌↔◌, ◌⊎◌, true, false, List, ◌++◌, map, Contains, None, IsSome}
use Rattle.std.specs.List.Sorted.{IsStrictlySortedBy}
use Rattle.rpq_base.specs.Order.{name_cmp, pair_cmp}
use Rattle.rpq_base.specs.declared.data.Pair.{Pair}
use Rattle.rpq_base.specs.declared.data.Event.{Event}
use Rattle.answer_rows.specs.Answers.{Answer, AreRows, pair, until_of, row_of, sources_of}
use Rattle.answer_rows.specs.Answers.{end_of}
use Rattle.answer_rows.specs.Changes.{changes, event}

-- rows in which all pairs have the same ends are the same
abbrev pub EndsTellRows : Type 0
EndsTellRows = (rows others : List Answer) → AreRows rows → AreRows others →
    ((pair : Pair) → until_of rows pair ≡ until_of others pair) → rows ≡ others

-- the end of a pair is that of its target in the row of its source
abbrev pub EndsAreInRows : Type 0
EndsAreInRows =
    (rows : List Answer) (pair : Pair) → until_of rows pair ≡ end_of (row_of rows pair.from) pair.to

-- the sources of a vertex are those from which a pair to it has an end, in order and each once
pub record SourcesHaveEnds : Type 0 where
  pub each : (rows : List Answer) (from to : List ℕ) →
      Contains (sources_of rows to) from ↔ IsSome (until_of rows (pair from to))
  pub in_order : (rows : List Answer) (to : List ℕ) → AreRows rows →
      IsStrictlySortedBy name_cmp (sources_of rows to)

-- an event between two lists of answers: the pair of a loss has an end in the old one and none in
-- the new one, that of a gain none in the old one and an end in the new one
abbrev pub IsChange : List Answer → List Answer → Event → Type 0
IsChange old new each =
    ((each.added ≡ false) × IsSome (until_of old each.pair) × (until_of new each.pair ≡ None))
    ⊎ ((each.added ≡ true) × (until_of old each.pair ≡ None) × IsSome (until_of new each.pair))

-- the events are exactly the changes, under the query's number
abbrev pub EventsAreChanges : Type 0
EventsAreChanges = (query : ℕ) (old new : List Answer) (each : Event) →
    Contains (changes query old new) each ↔ ((each.query ≡ query) × IsChange old new each)

-- the events are losses and then gains, each of the two in the order of the pairs
pub record AreInOrder (query : ℕ) (events : List Event) : Type 0 where
  pub losses : List Pair
  pub gains : List Pair
  pub split : events ≡ map (event query false) losses ++ map (event query true) gains
  pub lost : IsStrictlySortedBy pair_cmp losses
  pub gained : IsStrictlySortedBy pair_cmp gains

-- so are the events between two lists of answers
abbrev pub EventsAreInOrder : Type 0
EventsAreInOrder = (query : ℕ) (old new : List Answer) → AreRows old → AreRows new →
    AreInOrder query (changes query old new)
