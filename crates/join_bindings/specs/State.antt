-- Joins with the pairs of each query, and what events change of these.
use Rattle.std.specs.Prelude.{◌≡◌, ℕ, ◌<◌, ◌↔◌, Bool, true, false, List, [], length, All, AllPairs}
use Rattle.std.specs.Prelude.{Contains, slice_index_or}
use Rattle.rpq_base.specs.declared.data.Pair.{Pair}
use Rattle.rpq_base.specs.declared.data.Event.{Event}
use Rattle.join_file.specs.Joins.{JoinValue}
use Rattle.join_bindings.specs.Bindings.{Family}

-- the joins, the pairs of each query, and whether memory ran out
pub record JoinsValue : Type 0 where
  pub joins : List JoinValue
  pub pairs : List (List Pair)
  pub spent : Bool

-- the pairs of each query, which are the list with its number
abbrev pub family : List (List Pair) → Family
family sets query = slice_index_or sets query []

-- no two of the events are of one query and one pair
abbrev pub AreApart : List Event → Type 0
AreApart events = AllPairs
    (λ event later. event.query ≡ later.query → event.pair ≡ later.pair → ⊥) events

-- events that may come: their queries have pairs, no two are of one query and one pair, each
-- retraction's pair is held and each addition's isn't
pub record MayCome (sets : List (List Pair)) (events : List Event) : Type 0 where
  pub within : All (λ event. event.query < length sets) events
  pub apart : AreApart events
  pub suits : (event : Event) → Contains events event →
      (event.added ≡ false) ↔ Contains (family sets event.query) event.pair

-- one of the events is of this query and this pair
abbrev pub IsNamed : List Event → ℕ → Pair → Type 0
IsNamed events query pair =
    (event : Event) × Contains events event × (event.query ≡ query) × (event.pair ≡ pair)

-- the pairs of the additions are put in and those of the retractions taken out, and all others stay
-- as they were
pub record ArePut (old new : List (List Pair)) (events : List Event) : Type 0 where
  pub told : (event : Event) → Contains events event →
      (event.added ≡ true) ↔ Contains (family new event.query) event.pair
  pub others : (query : ℕ) (pair : Pair) → (IsNamed events query pair → ⊥) →
      Contains (family new query) pair ↔ Contains (family old query) pair
