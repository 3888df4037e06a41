-- What changes the bindings of a join, as laws.
use Rattle.std.specs.Prelude.{◌≡◌, ℕ, Bool, ◌↔◌, List, IsTrue, Contains, Some, slice_get}
use Rattle.rpq_base.specs.declared.data.Pair.{Pair}
use Rattle.join_file.specs.declared.data.JoinAtom.{JoinAtom}
use Rattle.join_file.specs.Joins.{JoinValue}
use Rattle.join_bindings.specs.Bindings.{Family, IsPairOf, IsBinding}
use Rattle.join_bindings.specs.declared.event.JoinEvent.{JoinEvent}
use Rattle.join_bindings.specs.Events.{IsLost, AreJoinEvents, join_held_from}

-- pairs of one family that the other lacks
abbrev pub AreMissing : Family → Family → Family → Type 0
AreMissing here there missing = (query : ℕ) (pair : Pair) → Contains (missing query) pair
    ↔ (Contains (here query) pair × (Contains (there query) pair → ⊥))

-- a binding that meets one of the atoms by one of these pairs
pub record IsTouched (join : JoinValue) (pairs touched : Family)
    (names : List (List ℕ)) : Type 0 where
  pub is : IsBinding join pairs names
  pub atom : JoinAtom
  pub among : Contains join.atoms atom
  pub pair : Pair
  pub has : IsPairOf names atom pair
  pub touches : Contains (touched atom.query) pair

-- from one family to another exactly those bindings are lost that meet an atom by a pair which is,
-- and so, the other way round, for what is gained
abbrev pub ChangesAreTouched : Type 0
ChangesAreTouched = (join : JoinValue) (here there missing : Family) →
    AreMissing here there missing →
    (names : List (List ℕ)) → IsLost join here there names ↔ IsTouched join here missing names

-- going through the events carries what is held from the bindings before to those after
abbrev pub BindingsHold : Type 0
BindingsHold = (joins : List JoinValue) (number : ℕ) (join : JoinValue) (before after : Family)
    (events : List JoinEvent) (held : Bool) (names : List (List ℕ)) →
    slice_get joins number ≡ Some join → AreJoinEvents joins before after events →
    IsTrue held ↔ IsBinding join before names →
    IsTrue (join_held_from held number names events) ↔ IsBinding join after names
