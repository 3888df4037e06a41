-- One node raised at its place.
use Rattle.std.specs.Prelude.{◌≡◌, ℕ, ◌<◌, ◌≤◌, nat_eq, cond, List, Option, Some, option_map, map, slice_get}
use Rattle.std.specs.Map.{lookup}
use Rattle.delta_tree.specs.declared.node.NodeId.{NodeId}
use Rattle.delta_tree.specs.declared.node.Shift.{Shift}
use Rattle.place_table.specs.declared.spot.Spot.{Spot}
use Rattle.place_table.specs.declared.place.Kept.{Kept}
use Rattle.place_table.specs.Kept.{Placed, PutsAt, kept_at}
use Rattle.place_table.specs.Table.{PlaceValue, TableValue, node_at}

-- what is kept, where something is, has at least this value
abbrev pub HasEnough : Option Kept → ℕ → Type 0
HasEnough found value = (was : Kept) × (found ≡ Some was) × (value ≤ was.value)

-- what was kept, where something was, has a lesser value than this
abbrev pub HadLess : Option Kept → ℕ → Type 0
HadLess found value = (was : Kept) → found ≡ Some was → was.value < value

-- the place now has the value of this, where that was kept, or nothing
abbrev pub shift_of : NodeId → Option Kept → Kept → Shift
shift_of id found kept = record {
  id = id;
  before = option_map (λ (was : Kept). was.value) found;
  after = Some kept.value;
}

-- this of greater value is kept of the root's node at one place
pub record RaisesHere (old new : Placed) (root : ℕ) (kept : Kept) (shift : Shift) : Type 0 where
  pub less : HadLess (lookup (nat_eq root) old.nodes) kept.value
  pub nodes : (each : ℕ) → lookup (nat_eq each) new.nodes
      ≡ cond (nat_eq root each) (Some kept) (lookup (nat_eq each) old.nodes)
  pub told : shift ≡ shift_of old.id (lookup (nat_eq root) old.nodes) kept

-- the same among all places
pub record RaisesAt (old new : List Placed) (spot : Spot) (kept : Kept) (shift : Shift)
    : Type 0 where
  pub less : HadLess (kept_at old spot.root spot.id) kept.value
  pub nodes : PutsAt old new spot.root spot.id (Some kept)
  pub told : shift ≡ shift_of spot.id (kept_at old spot.root spot.id) kept

-- the place has this number in the table
abbrev pub HasNumber : TableValue → NodeId → ℕ → Type 0
HasNumber table id number =
    slice_get (map (λ (place : PlaceValue). place.id) table.places) number ≡ Some id

-- of all that isn't the tree of this root, the number of puts alone may rise
pub record ChangesOneTree (old new : TableValue) (root : ℕ) : Type 0 where
  pub others : (other : ℕ) → (root ≡ other → ⊥) → (id : NodeId) →
      node_at new other id ≡ node_at old other id
  pub counted : old.puts ≤ new.puts
  pub shown : new.root ≡ old.root
  pub marked : new.marked ≡ old.marked
