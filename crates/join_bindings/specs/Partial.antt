-- Names that are bound so far, and how an atom extends them. Private contracts alone cite this.
use Rattle.std.specs.Prelude.{◌≡◌, ◌≢◌, ℕ, ◌↔◌, List, length, map, Option, Some, None, slice_get}
use Rattle.std.specs.Prelude.{[], Contains, slice_index_or}
use Rattle.std.specs.Borrow.{Bor}
use Rattle.rpq_base.specs.declared.data.Pair.{Pair}
use Rattle.join_file.specs.declared.data.Term.{Term}
use Rattle.join_file.specs.declared.data.Term.TheVariants.{Variable}
use Rattle.join_file.specs.declared.data.JoinAtom.{JoinAtom}
use Rattle.join_file.specs.Joins.{JoinValue}
use Rattle.join_bindings.specs.Bindings.{value_of, IsPairOf}
use Rattle.join_file.specs.Sound.{Mentions}

-- for each variable its name, if it is bound
abbrev pub Bound : Type 0
Bound = List (Option (List ℕ))

-- the names are as many as the variables, and those that are bound are these
pub record Agrees (bound : Bound) (names : List (List ℕ)) : Type 0 where
  pub as_many : length names ≡ length bound
  pub same : (number : ℕ) (name : List ℕ) →
      slice_get bound number ≡ Some (Some name) → slice_get names number ≡ Some name

-- the variable isn't bound
abbrev pub IsOpen : Bound → ℕ → Type 0
IsOpen bound number = slice_get bound number ≡ Some None

-- with the term bound to the name
pub record Binds (bound : Bound) (term : Term) (name : List ℕ) (more : Bound) : Type 0 where
  pub agrees : (names : List (List ℕ)) →
      Agrees more names ↔ (Agrees bound names × (value_of names term ≡ Some name))
  pub as_many : length more ≡ length bound
  pub leaves : (number : ℕ) → IsOpen more number →
      IsOpen bound number × (term ≢ Variable number)

-- no names that agree give the term this name
abbrev pub Clashes : Bound → Term → List ℕ → Type 0
Clashes bound term name =
    (names : List (List ℕ)) → Agrees bound names → value_of names term ≡ Some name → ⊥

-- what is bound once the term is bound to the name, if it can be
abbrev pub MayBind : Bound → Term → List ℕ → Option Bound → Type 0
MayBind bound term name None = Clashes bound term name
MayBind bound term name (Some more) = Binds bound term name more

-- some of these agree with the names
abbrev pub Covers : List Bound → List (List ℕ) → Type 0
Covers all names = (bound : Bound) × Contains all bound × Agrees bound names

-- the values behind references to atoms
abbrev pub atoms_at : List (Bor JoinAtom) → List JoinAtom
atoms_at atoms = map (λ atom. atom.now) atoms

-- a name is the known one, if there is one
abbrev pub Fits : Option (Bor (List ℕ)) → List ℕ → Type 0
Fits None name = Unit {0}
Fits (Some known) name = known.now ≡ name

-- what stays open when an atom is taken
pub record Closes (bound : Bound) (atom : JoinAtom) (more : Bound) : Type 0 where
  pub as_many : length more ≡ length bound
  pub leaves : (number : ℕ) → IsOpen more number →
      IsOpen bound number × (Mentions atom number → ⊥)

-- with both ends of the atom bound to those of the pair
pub record Takes (bound : Bound) (atom : JoinAtom) (pair : Pair) (more : Bound) : Type 0 where
  pub agrees : (names : List (List ℕ)) →
      Agrees more names ↔ (Agrees bound names × IsPairOf names atom pair)
  pub closes : Closes bound atom more

-- what is bound once the atom takes the pair, if it can
abbrev pub MayTake : Bound → JoinAtom → Pair → Option Bound → Type 0
MayTake bound atom pair None =
    (names : List (List ℕ)) → Agrees bound names → IsPairOf names atom pair → ⊥
MayTake bound atom pair (Some more) = Takes bound atom pair more

-- the atom is met by one of these pairs
abbrev pub IsMetBy : List Pair → List (List ℕ) → JoinAtom → Type 0
IsMetBy pairs names atom =
    (pair : Pair) × IsPairOf names atom pair × Contains pairs pair

-- the atom is met by the pairs of its query, which are the list with its number
abbrev pub IsMetIn : List (List Pair) → List (List ℕ) → JoinAtom → Type 0
IsMetIn sets names atom = IsMetBy (slice_index_or sets atom.query []) names atom

-- each of the atoms is met
abbrev pub AreMet : List (List Pair) → List (List ℕ) → List JoinAtom → Type 0
AreMet sets names atoms = (atom : JoinAtom) → Contains atoms atom → IsMetIn sets names atom

-- what stays open when atoms are taken
pub record ClosesAll (bound : Bound) (atoms : List JoinAtom) (more : Bound) : Type 0 where
  pub as_many : length more ≡ length bound
  pub leaves : (number : ℕ) → IsOpen more number →
      IsOpen bound number × ((atom : JoinAtom) → Contains atoms atom → Mentions atom number → ⊥)

-- nothing is open
abbrev pub IsFull : Bound → Type 0
IsFull bound = (number : ℕ) → IsOpen bound number → ⊥

-- the names are a binding of the join over these pairs, and this is the atom's pair
pub record IsThrough (sets : List (List Pair)) (join : JoinValue) (atom : JoinAtom) (pair : Pair)
    (names : List (List ℕ)) : Type 0 where
  pub as_many : length names ≡ join.variables
  pub own : IsPairOf names atom pair
  pub met : AreMet sets names join.atoms
