-- How a source tells what a change did to its tree. No contract outside the crate cites this file.
use Rattle.std.specs.Prelude.{◌≡◌, ◌≢◌, ◌↔◌, ℕ, Bool, true, false, ◌||◌, List, [], ◌∷◌, ◌++◌, length, filter}
use Rattle.std.specs.Prelude.{All, Any, Contains, IsTrue, Option, None, Some, IsSome, is_some}
use Rattle.std.specs.List.{list_any}
use Rattle.std.specs.List.Sorted.{IsNonDecreasingBy}
use Rattle.delta_tree.specs.declared.node.NodeId.{NodeId}
use Rattle.delta_tree.specs.declared.node.Shift.{Shift}
use Rattle.delta_tree.specs.Nodes.{TreeValue, node_id, same_node, value_of}
use Rattle.delta_tree.specs.Changes.{AreShifts, IsShift, shift_ids}
use Rattle.source_tree.specs.Ends.{AreEndChanges, end_change, end_in}
use Rattle.source_tree.specs.Product.{ProductValue, IsOptimalOn}
use Rattle.source_tree.specs.Taking.{AreMoved, IsTouched, KeepsNodes, TellsTouched}
use Rattle.source_tree.specs.declared.change.Change.{Change}
use Rattle.source_tree.specs.declared.change.EndChange.{EndChange}
use Rattle.source_tree.specs.declared.change.Outcome.{Outcome}
use Rattle.source_tree.specs.declared.change.Outcome.TheVariants.{Lost, Gained}

-- ---- what a change does to a tree alone

-- these are the places that the change touched, with their values before and after
pub record Touches (change : Change) (old new : TreeValue) (shifts : List Shift) : Type 0 where
  pub touched : All (IsTouched change old new) (shift_ids shifts)
  pub values : AreShifts old new shifts

-- the change made the tree optimal, kept what it doesn't touch, and touched this
pub record HasChanged (change : Change) (product : ProductValue) (old new : TreeValue)
    (shifts : List Shift) : Type 0 where
  pub optimal : IsOptimalOn product new
  pub keeps : KeepsNodes change old new
  pub touches : Touches change old new shifts

-- ---- what is told of it

-- whether a node comes or goes, by the values before and after
abbrev pub moves : Option ℕ → Option ℕ → Bool
moves None None = false
moves None (Some after) = true
moves (Some before) None = true
moves (Some before) (Some after) = false

-- the places where a node came or went
abbrev pub moved_ids : List Shift → List NodeId
moved_ids shifts = shift_ids (filter (λ (each : Shift). moves each.before each.after) shifts)

-- the places where nodes came or went, the ends that did, and whether the tree was touched
pub record Tells (change : Change) (finals : List ℕ) (old new : TreeValue)
    (ids : List NodeId) (changes : List EndChange) (whether : Bool) : Type 0 where
  pub touched : TellsTouched change old new whether
  pub moved : AreMoved change old new ids
  pub log : AreEndChanges new.root (end_in finals old) (end_in finals new) changes

-- ---- the ends

-- in the order of their vertices
abbrev pub IsByVertex : List Shift → Type 0
IsByVertex shifts = IsNonDecreasingBy (λ (each : Shift). each.id.vertex) shifts

-- where there isn't one final state alone, the shifts are in the order of their vertices
abbrev pub IsInOrder : List ℕ → List Shift → Type 0
IsInOrder finals shifts = length finals ≢ 1 → IsByVertex shifts

-- the shifts have the values of the vertex, before and after, wherever these differ
pub record IsRun (old new : TreeValue) (vertex : ℕ) (run : List Shift) : Type 0 where
  pub those : All (λ (each : Shift). each.id.vertex ≡ vertex) run
  pub values : All (IsShift old new) run
  pub others : (state : ℕ) → (Contains (shift_ids run) (node_id vertex state) → ⊥) →
      value_of new (node_id vertex state) ≡ value_of old (node_id vertex state)

-- the state is final, and there is a value
pub record IsFinalWith (finals : List ℕ) (state : ℕ) (value : Option ℕ) : Type 0 where
  pub final : Contains finals state
  pub some : IsSome value

-- this value is there for some shift of a final state
abbrev pub AnyFinal : List ℕ → (Shift → Option ℕ) → List Shift → Type 0
AnyFinal finals value shifts =
    Any (λ (each : Shift). IsFinalWith finals each.id.state (value each)) shifts

-- by these shifts a final state had a node before where the one is true, and has one after where
-- the other is
pub record TellShifted (finals : List ℕ) (shifts : List Shift) (ends : Bool × Bool)
    : Type 0 where
  pub before : IsTrue ends.0 ↔ AnyFinal finals (λ (each : Shift). each.before) shifts
  pub after : IsTrue ends.1 ↔ AnyFinal finals (λ (each : Shift). each.after) shifts

-- so they do with a shift more, if its state is final
abbrev pub Widens : List ℕ → Shift → Bool × Bool → Bool × Bool → Type 0
Widens finals shift ends new =
    (Contains finals shift.id.state →
    new ≡ (ends.0 || is_some shift.before, ends.1 || is_some shift.after))
    × ((Contains finals shift.id.state → ⊥) → new ≡ ends)

-- whether one of the shifts is of the place
abbrev pub has_place : List Shift → NodeId → Bool
has_place shifts id = list_any (λ (each : Shift). same_node each.id id) shifts

-- a node of the vertex stands at the place, with a final state, and none of the shifts is of it
pub record IsBeside (finals : List ℕ) (tree : TreeValue) (vertex : ℕ) (run : List Shift)
    (id : NodeId) : Type 0 where
  pub there : id.vertex ≡ vertex
  pub final : Contains finals id.state
  pub apart : Contains (shift_ids run) id → ⊥
  pub stands : IsSome (value_of tree id)

-- there is such a node
abbrev pub HasBeside : List ℕ → TreeValue → ℕ → List Shift → Type 0
HasBeside finals tree vertex run = (id : NodeId) × IsBeside finals tree vertex run id

-- what becomes of an end, by whether there is one before and whether there is one after
abbrev pub outcome_of : Bool → Bool → Option Outcome
outcome_of true true = None
outcome_of true false = Some Lost
outcome_of false true = Some Gained
outcome_of false false = None

-- the log has the end of the vertex with its outcome more, if it comes or goes
abbrev pub Logs : ℕ → ℕ → Option Outcome → List EndChange → List EndChange → Type 0
Logs root vertex None old new = new ≡ old
Logs root vertex (Some outcome) old new = new ≡ old ++ end_change root vertex outcome ∷ []
