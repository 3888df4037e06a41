-- The columns of queries and the vertices that two of them share. Private contracts alone cite
-- this.
use Rattle.std.specs.Prelude.{◌≡◌, ℕ, ◌↔◌, ◌⊎◌, List, [], Contains, Option, Some, None}
use Rattle.std.specs.Prelude.{slice_index_or}
use Rattle.std.specs.Borrow.{Bor}
use Rattle.rpq_base.specs.declared.data.Pair.{Pair}
use Rattle.rpq_base.specs.declared.data.Event.{Event}
use Rattle.join_file.specs.declared.data.Term.{Term}
use Rattle.join_file.specs.declared.data.JoinAtom.{JoinAtom}
use Rattle.join_bindings.specs.declared.columns.Side.{Side}
use Rattle.join_bindings.specs.declared.columns.Side.TheVariants.{Source, Target}
use Rattle.join_bindings.specs.declared.columns.Column.{Column}
use Rattle.join_bindings.specs.declared.columns.Columns.{Columns}
use Rattle.join_bindings.specs.declared.overlap.Overlap.{Overlap}
use Rattle.join_bindings.specs.Changed.{IsPut}
use Rattle.join_bindings.specs.Bindings.{value_of, IsPairOf}
use Rattle.join_bindings.specs.Partial.{AreMet}

-- what stands at a side of a pair
abbrev pub vertex_at : Side → Pair → List ℕ
vertex_at Source pair = pair.from
vertex_at Target pair = pair.to

-- what stands at a side of an atom
abbrev pub term_at : Side → JoinAtom → Term
term_at Source atom = atom.from
term_at Target atom = atom.to

-- one of the pairs has the vertex at this side
abbrev pub StandsIn : List Pair → Side → List ℕ → Type 0
StandsIn pairs side vertex = (pair : Pair) × Contains pairs pair × (vertex_at side pair ≡ vertex)

-- one of the pairs of the column's query has the vertex there
abbrev pub StandsAt : List (List Pair) → Column → List ℕ → Type 0
StandsAt sets column vertex = StandsIn (slice_index_or sets column.query []) column.side vertex

-- the same of both columns
abbrev pub StandsInBoth : List (List Pair) → Columns → List ℕ → Type 0
StandsInBoth sets columns vertex =
    StandsAt sets columns.first vertex × StandsAt sets columns.second vertex

-- the vertex is among these exactly where it stands in both columns
abbrev pub IsRight : List (List Pair) → Columns → List (List ℕ) → List ℕ → Type 0
IsRight sets columns vertices vertex =
    Contains vertices vertex ↔ StandsInBoth sets columns vertex

-- afterwards those are right that were before, and some more
abbrev pub Renews : List (List Pair) → Columns → List (List ℕ) → List (List ℕ) →
    (List ℕ → Type 0) → Type 0
Renews sets columns before after some = (each : List ℕ) →
    (IsRight sets columns before each ⊎ some each) → IsRight sets columns after each

-- the event is of the column's query, and its pair has the vertex there
abbrev pub IsAtEvent : Column → Event → List ℕ → Type 0
IsAtEvent column event vertex =
    (column.query ≡ event.query) × (vertex_at column.side event.pair ≡ vertex)

-- where the event has changed the sets, and all were right before it, all are right
abbrev pub Follows : List (List Pair) → Event → Columns → List (List ℕ) → List (List ℕ) → Type 0
Follows sets event columns old new = (before : List (List Pair)) → IsPut before sets event →
    ((each : List ℕ) → IsRight before columns old each) →
    (each : List ℕ) → IsRight sets columns new each

-- exactly the vertices that stand in both columns
abbrev pub IsOverlap : List (List Pair) → Overlap → Type 0
IsOverlap sets overlap =
    (vertex : List ℕ) → IsRight sets overlap.columns overlap.vertices vertex

-- where the event has changed the sets, and the overlap was one before it, it is one
abbrev pub FollowsOne : List (List Pair) → Event → Overlap → Overlap → Type 0
FollowsOne sets event old new = (before : List (List Pair)) → IsPut before sets event →
    IsOverlap before old → IsOverlap sets new

-- no vertices
abbrev pub IsBlank : Overlap → Type 0
IsBlank overlap = overlap.vertices ≡ []

-- the pairs of one of the atoms have the term in this column
abbrev pub IsColumnOf : List JoinAtom → Term → Column → Type 0
IsColumnOf atoms term column = (atom : JoinAtom) × Contains atoms atom
    × (atom.query ≡ column.query) × (term_at column.side atom ≡ term)

-- each vertex that the term stands for, where the atoms are met, is among these, if they are given
abbrev pub IsNarrow : List (List Pair) → List JoinAtom → Term → Option (Bor (List (List ℕ))) →
    Type 0
IsNarrow sets atoms term None = Unit {0}
IsNarrow sets atoms term (Some few) = (names : List (List ℕ)) (vertex : List ℕ) →
    AreMet sets names atoms → value_of names term ≡ Some vertex → Contains few.now vertex

-- the pairs found are of the atom's query, and all of those that fit which names give it that meet
-- the atoms
pub record Suffice (sets : List (List Pair)) (atoms : List JoinAtom) (atom : JoinAtom)
    (fit : Pair → Type 0) (found : List Pair) : Type 0 where
  pub only : (pair : Pair) → Contains found pair →
      Contains (slice_index_or sets atom.query []) pair
  pub all : (names : List (List ℕ)) (pair : Pair) → AreMet sets names atoms →
      IsPairOf names atom pair → Contains (slice_index_or sets atom.query []) pair → fit pair →
      Contains found pair

-- the narrow statement implies the wide one, and is implied by it for names that meet the atoms
pub record Narrows (sets : List (List Pair)) (atoms : List JoinAtom) (names : List (List ℕ))
    (wide narrow : Type 0) : Type 0 where
  pub only : narrow → wide
  pub all : AreMet sets names atoms → wide → narrow
