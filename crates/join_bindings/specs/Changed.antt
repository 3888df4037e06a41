-- What one event changes of the pairs, and what is found of bindings. Private contracts alone cite
-- this.
use Rattle.std.specs.Prelude.{◌≡◌, ℕ, ◌↔◌, Bool, true, List}
use Rattle.std.specs.Prelude.{Contains, Some, slice_get}
use Rattle.rpq_base.specs.declared.data.Pair.{Pair}
use Rattle.rpq_base.specs.declared.data.Event.{Event}
use Rattle.join_bindings.specs.declared.event.JoinEvent.{JoinEvent}
use Rattle.join_file.specs.Joins.{JoinValue}
use Rattle.join_bindings.specs.State.{family}
use Rattle.join_bindings.specs.Touched.{IsThroughKind}

-- the pair of the event is put in or taken out, and all others stay as they were
pub record IsPut (old new : List (List Pair)) (event : Event) : Type 0 where
  pub own : (event.added ≡ true) ↔ Contains (family new event.query) event.pair
  pub others : (query : ℕ) (pair : Pair) → ((event.query ≡ query) × (event.pair ≡ pair) → ⊥) →
      Contains (family new query) pair ↔ Contains (family old query) pair

-- the event tells a binding of its join that meets an atom by the pair of an event of this kind
abbrev pub IsFound : List (List Pair) → List JoinValue → Bool → List Event → JoinEvent → Type 0
IsFound sets joins added events each = (join : JoinValue) × (slice_get joins each.join ≡ Some join)
    × (each.added ≡ added) × IsThroughKind sets join added events each.binding
