-- Many roots lifted at one place.
use Rattle.std.specs.Prelude.{◌≡◌, ◌≢◌, ℕ, ◌-◌, ◌<◌, ◌≤◌, ◌⊎◌, nat_eq, List, Option, Some, Bool, true, false, not, Contains, map, filter, take, drop, min}
use Rattle.std.specs.List.{IsDistinct}
use Rattle.delta_tree.specs.declared.node.NodeId.{NodeId}
use Rattle.delta_tree.specs.declared.node.Try.{Try}
use Rattle.delta_tree.specs.declared.node.Node.{Node}
use Rattle.delta_tree.specs.Nodes.{Joins}
use Rattle.delta_tree.specs.Changes.{Carries, is_enough}
use Rattle.place_table.specs.declared.gain.Gain.{Gain}
use Rattle.place_table.specs.Table.{TableValue, tree_in, node_at, value_at, gain_roots}

-- the gains from the one number to before the other
abbrev pub between : ℕ → ℕ → List Gain → List Gain
between low high gains = take (high - low) (drop low gains)

-- what a gain brings by a step of this width
abbrev pub brings : ℕ → Gain → ℕ
brings width gain = min gain.cap width

-- the root has as much at the place already
abbrev pub has_enough : TableValue → NodeId → ℕ → Gain → Bool
has_enough table to width gain =
    is_enough (value_at table gain.root to) (brings width gain)

-- the gain of a root that was lifted there
abbrev pub lifted_gain : TableValue → NodeId → ℕ → Gain → Gain
lifted_gain table to width gain = record {
  root = gain.root;
  cap = brings width gain;
  before = value_at table gain.root to;
}

-- those of the roots that have less there
abbrev pub lifted_gains : TableValue → NodeId → ℕ → List Gain → List Gain
lifted_gains table to width gains =
    map (lifted_gain table to width)
    (filter (λ (gain : Gain). not (has_enough table to width gain)) gains)

-- the step may hang its target below its source in the tree of each root that gains
pub record CanLift (table : TableValue) (step : Try) (width : ℕ) (gains : List Gain) : Type 0 where
  pub from : (gain : Gain) → Contains gains gain →
      Carries (tree_in table gain.root) step.from (brings width gain)
  pub state : 0 < step.to.state
  pub joins : Joins step.from step.edge step.to
  pub once : IsDistinct nat_eq (gain_roots gains)

-- a node that a step made with this value, with a stamp of its own since there were so many puts
abbrev pub IsPutSince : ℕ → ℕ → Try → ℕ → Option Node → Type 0
IsPutSince low high step value found =
    (stamp : ℕ) × (low ≤ stamp) × (stamp < high) × (found ≡ Some (record {
      value = value;
      parent = step.from;
      edge = step.edge;
      stamp = stamp;
    }))

-- each root that gains and had less was lifted by the step, and nothing else changed
pub record LiftsAll (old new : TableValue) (step : Try) (width : ℕ) (gains : List Gain)
    : Type 0 where
  pub counted : old.puts ≤ new.puts
  pub elsewhere : (root : ℕ) (id : NodeId) → id ≢ step.to →
      node_at new root id ≡ node_at old root id
  pub others : (root : ℕ) → (Contains (gain_roots gains) root → ⊥) →
      node_at new root step.to ≡ node_at old root step.to
  pub enough : (gain : Gain) → Contains gains gain →
      has_enough old step.to width gain ≡ true →
      node_at new gain.root step.to ≡ node_at old gain.root step.to
  pub raised : (gain : Gain) → Contains gains gain →
      has_enough old step.to width gain ≡ false →
      IsPutSince old.puts new.puts step (brings width gain) (node_at new gain.root step.to)

-- no place is marked that wasn't, but this one
abbrev pub MarksAtMost : TableValue → TableValue → NodeId → Type 0
MarksAtMost old new to =
    (id : NodeId) → Contains new.marked id → Contains old.marked id ⊎ (id ≡ to)
