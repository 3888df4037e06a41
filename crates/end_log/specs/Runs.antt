-- The nodes of one root at one vertex that came or went, and those that stand there. No contract
-- outside the crate cites this file.
use Rattle.std.specs.Prelude.{◌≡◌, ℕ, Bool, true, false, ◌&&◌, ◌==◌, List, filter, is_some}
use Rattle.std.specs.Prelude.{Option, None, Some}
use Rattle.std.specs.List.Sorted.{IsStrictlySortedBy}
use Rattle.std.specs.Ordering.{nat_cmp}
use Rattle.dfa_table.specs.DfaValue.{DfaValue, is_final}
use Rattle.delta_tree.specs.Nodes.{node_id}
use Rattle.place_table.specs.Table.{AreStates, TableValue, value_at}
use Rattle.source_tree.specs.declared.change.EndChange.{EndChange}
use Rattle.source_tree.specs.declared.change.Outcome.{Outcome}
use Rattle.source_tree.specs.declared.change.Outcome.TheVariants.{Lost, Gained}
use Rattle.end_log.specs.declared.moved.Moved.{Moved}

-- a vertex that was looked at, and the states there
pub record StatesValue : Type 0 where
  pub vertex : Option ℕ
  pub states : List ℕ

-- the list has exactly the states with which some root stands at the vertex, each once
pub record AreDistinctStates (table : TableValue) (vertex : ℕ) (states : List ℕ) : Type 0 where
  pub exact : AreStates table vertex states
  pub rising : IsStrictlySortedBy nat_cmp states

-- if a vertex was looked at, these are the states there
abbrev pub Knows : TableValue → StatesValue → Type 0
Knows table seen = (vertex : ℕ) → seen.vertex ≡ Some vertex →
    AreDistinctStates table vertex seen.states

-- the state is final, and the root of the node has one at its vertex with this state
abbrev pub is_standing : DfaValue → TableValue → Moved → ℕ → Bool
is_standing dfa table moved state =
    is_final dfa state && is_some (value_at table moved.root (node_id moved.vertex state))

-- those of the states
abbrev pub standing : DfaValue → TableValue → Moved → List ℕ → List ℕ
standing dfa table moved states = filter (is_standing dfa table moved) states

-- how many of so many nodes that came or went stand there now
abbrev pub new_among : Outcome → ℕ → ℕ
new_among Lost len = 0
new_among Gained len = len

-- the change, unless this is so
abbrev pub end_unless : Bool → EndChange → Option EndChange
end_unless true change = None
end_unless false change = Some change

-- of one root at one vertex
abbrev pub is_beside : Moved → Moved → Bool
is_beside first second = (first.vertex == second.vertex) && (first.root == second.root)
