-- The bindings of joins.
use Rattle.std.specs.Prelude.{◌≡◌, ℕ, List, length, Option, Some, slice_get, Contains}
use Rattle.std.specs.Prelude.{◌↔◌}
use Rattle.std.specs.List.Sorted.{IsStrictlySortedBy}
use Rattle.std.specs.declared.cmp.Ordering.{Ordering}
use Rattle.std.specs.Cmp.Lexicographic.{slice_cmp}
use Rattle.rpq_base.specs.Order.{name_cmp}
use Rattle.rpq_base.specs.declared.data.Pair.{Pair}
use Rattle.join_file.specs.declared.data.Term.{Term}
use Rattle.join_file.specs.declared.data.Term.TheVariants.{Variable, Vertex}
use Rattle.join_file.specs.declared.data.JoinAtom.{JoinAtom}
use Rattle.join_file.specs.Joins.{JoinValue}

-- the pairs of each query, by its number
abbrev pub Family : Type 0
Family = ℕ → List Pair

-- the vertex that a term stands for, where each variable has one of these names
abbrev pub value_of : List (List ℕ) → Term → Option (List ℕ)
value_of names (Variable number) = slice_get names number
value_of names (Vertex name) = Some name

-- the pair is that of the atom's terms
pub record IsPairOf (names : List (List ℕ)) (atom : JoinAtom) (pair : Pair) : Type 0 where
  pub from : value_of names atom.from ≡ Some pair.from
  pub to : value_of names atom.to ≡ Some pair.to

-- the atom is met: its pair is one of its query's
abbrev pub IsMet : Family → List (List ℕ) → JoinAtom → Type 0
IsMet pairs names atom =
    (pair : Pair) × IsPairOf names atom pair × Contains (pairs atom.query) pair

-- a binding gives each variable a name, such that all atoms are met
pub record IsBinding (join : JoinValue) (pairs : Family) (names : List (List ℕ)) : Type 0 where
  pub as_many : length names ≡ join.variables
  pub met : (atom : JoinAtom) → Contains join.atoms atom → IsMet pairs names atom

-- bindings are sorted name by name
abbrev pub binding_cmp : List (List ℕ) → List (List ℕ) → Ordering
binding_cmp = slice_cmp name_cmp

-- the bindings of a join, sorted, each once
pub record AreBindings (join : JoinValue) (pairs : Family)
    (bindings : List (List (List ℕ))) : Type 0 where
  pub sorted : IsStrictlySortedBy binding_cmp bindings
  pub exact : (names : List (List ℕ)) →
      Contains bindings names ↔ IsBinding join pairs names
