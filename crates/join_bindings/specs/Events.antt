-- The events of joins: which bindings are lost and which gained.
use Rattle.std.specs.Prelude.{◌≡◌, ℕ, Bool, true, false, ◌==◌, ◌&&◌, ◌↔◌, ◌⊎◌, List, [], ◌∷◌}
use Rattle.std.specs.Prelude.{Contains, Some, slice_get, if◌then◌else◌}
use Rattle.std.specs.List.Sorted.{IsStrictlySortedBy}
use Rattle.std.specs.declared.cmp.Ordering.{Ordering}
use Rattle.std.specs.Ordering.{ordering_then, nat_cmp, bool_cmp}
use Rattle.std.specs.Cmp.Lexicographic.{pointwise}
use Rattle.rpq_base.specs.Same.{same_name}
use Rattle.join_bindings.specs.declared.event.JoinEvent.{JoinEvent}
use Rattle.join_file.specs.Joins.{JoinValue}
use Rattle.join_bindings.specs.Bindings.{Family, IsBinding, binding_cmp}

-- by join, what is lost before what is gained, then by binding
abbrev pub join_event_cmp : JoinEvent → JoinEvent → Ordering
join_event_cmp first second =
    ordering_then (ordering_then (nat_cmp first.join second.join)
    (bool_cmp first.added second.added))
    (binding_cmp first.binding second.binding)

-- a binding of the join in one family and not in the other
pub record IsLost (join : JoinValue) (before after : Family) (names : List (List ℕ)) : Type 0 where
  pub was : IsBinding join before names
  pub gone : IsBinding join after names → ⊥

-- from one family to another the binding is lost, or gained
abbrev pub IsJoinChange : JoinValue → Family → Family → JoinEvent → Type 0
IsJoinChange join before after each =
    ((each.added ≡ false) × IsLost join before after each.binding)
    ⊎ ((each.added ≡ true) × IsLost join after before each.binding)

-- the events are exactly the changes of the bindings of these joins, in their order
pub record AreJoinEvents (joins : List JoinValue) (before after : Family)
    (events : List JoinEvent) : Type 0 where
  pub sorted : IsStrictlySortedBy join_event_cmp events
  pub exact : (each : JoinEvent) → Contains events each
      ↔ ((join : JoinValue) × (slice_get joins each.join ≡ Some join)
      × IsJoinChange join before after each)

-- the same names
abbrev pub same_names : List (List ℕ) → List (List ℕ) → Bool
same_names = pointwise same_name

-- whether a join holds the binding after the events, where it held it before or not
abbrev pub join_held_from : Bool → ℕ → List (List ℕ) → List JoinEvent → Bool
join_held_from before join names [] = before
join_held_from before join names (event ∷ events) =
    join_held_from
    (if event.join == join && same_names event.binding names then event.added else before)
    join names events
