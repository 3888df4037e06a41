-- The bindings that meet an atom by the pair of an event. Private contracts alone cite this.
use Rattle.std.specs.Prelude.{◌≡◌, ℕ, ◌↔◌, Bool, List, [], Contains, slice_index_or}
use Rattle.rpq_base.specs.declared.data.Pair.{Pair}
use Rattle.rpq_base.specs.declared.data.Event.{Event}
use Rattle.join_file.specs.declared.data.JoinAtom.{JoinAtom}
use Rattle.join_file.specs.Joins.{JoinValue}
use Rattle.join_bindings.specs.Bindings.{Family}
use Rattle.join_bindings.specs.Laws.{IsTouched}
use Rattle.join_bindings.specs.Partial.{IsThrough}

-- the names are a binding, and meet this atom by the event's pair
pub record IsThroughAtom (sets : List (List Pair)) (join : JoinValue) (event : Event)
    (atom : JoinAtom) (names : List (List ℕ)) : Type 0 where
  pub query : atom.query ≡ event.query
  pub is : IsThrough sets join atom event.pair names

-- and meet one of these atoms by it
abbrev pub IsThroughEvent : List (List Pair) → JoinValue → List JoinAtom → Event →
    List (List ℕ) → Type 0
IsThroughEvent sets join atoms event names =
    (atom : JoinAtom) × Contains atoms atom × IsThroughAtom sets join event atom names

-- and do so by an event of this kind
abbrev pub IsThroughKind : List (List Pair) → JoinValue → Bool → List Event →
    List (List ℕ) → Type 0
IsThroughKind sets join added events names = (event : Event) × Contains events event
    × (event.added ≡ added) × IsThroughEvent sets join join.atoms event names

-- the pairs that the events of this kind tell of each query
abbrev pub AreTold : Bool → List Event → Family → Type 0
AreTold added events told = (query : ℕ) (pair : Pair) → Contains (told query) pair
    ↔ ((event : Event) × Contains events event × (event.added ≡ added)
    × (event.query ≡ query) × (event.pair ≡ pair))

-- what the search finds for these events are the bindings that meet an atom by such a pair
abbrev pub ThroughIsTouched : Type 0
ThroughIsTouched = (sets : List (List Pair)) (join : JoinValue) (added : Bool)
    (events : List Event) (told : Family) → AreTold added events told →
    (names : List (List ℕ)) → IsThroughKind sets join added events names
    ↔ IsTouched join (λ query. slice_index_or sets query []) told names
