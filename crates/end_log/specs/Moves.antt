-- Nodes that came or went. No contract outside the crate cites this file.
use Rattle.std.specs.Prelude.{◌≡◌, ◌↔◌, ◌⊎◌, ◌<◌, ◌≤◌, ℕ, ◌==◌, Bool, ◌&&◌, List, cond}
use Rattle.std.specs.Prelude.{Contains, AllPairs, IsTrue, Option, None, Some}
use Rattle.std.specs.List.{IsDistinct}
use Rattle.dfa_table.specs.DfaValue.{DfaValue, is_final}
use Rattle.delta_tree.specs.declared.node.NodeId.{NodeId}
use Rattle.delta_tree.specs.Nodes.{node_id}
use Rattle.place_table.specs.declared.gain.Lost.{Lost}
use Rattle.place_table.specs.Table.{TableValue, value_at}
use Rattle.wide_search.specs.declared.lifts.Lift.{Lift}
use Rattle.source_tree.specs.Ends.{HasOutcome, end_change}
use Rattle.source_tree.specs.declared.change.EndChange.{EndChange}
use Rattle.source_tree.specs.declared.change.Outcome.{Outcome}
use Rattle.end_log.specs.declared.moved.Moved.{Moved}

-- a node of the root at the place
abbrev pub moved_at : ℕ → NodeId → Moved
moved_at root id = record { vertex = id.vertex; root = root; state = id.state }

-- the node that a lift brought to a place without one, by the value before
abbrev pub new_at : ℕ → NodeId → Option ℕ → Option Moved
new_at root id None = Some (moved_at root id)
new_at root id (Some before) = None

-- the node that a lift brought, or none where it raised one
abbrev pub came : Lift → Option Moved
came lift = new_at lift.root lift.id lift.before

-- the node that a root lost
abbrev pub went : Lost → Option Moved
went lost = Some (moved_at lost.root lost.id)

-- the end of the node's root and vertex, with its outcome
abbrev pub end_of : Outcome → Moved → EndChange
end_of outcome moved = end_change moved.root moved.vertex outcome

-- the end that came or went with a node, where the state of this is the one that is final
abbrev pub end_with : ℕ → Outcome → Option Moved → Option EndChange
end_with state outcome None = None
end_with state outcome (Some moved) =
    cond (moved.state == state) (Some (end_of outcome moved)) None

-- the node, where its state is final
abbrev pub final_one : DfaValue → Option Moved → Option Moved
final_one dfa None = None
final_one dfa (Some moved) = cond (is_final dfa moved.state) (Some moved) None

-- these are exactly the states that the automaton says are final
abbrev pub HasFinals : DfaValue → List ℕ → Type 0
HasFinals dfa finals = (state : ℕ) → Contains finals state ↔ IsTrue (is_final dfa state)

-- the value of the root's node at the vertex with the state
abbrev pub value_by : TableValue → Moved → Option ℕ
value_by table moved = value_at table moved.root (node_id moved.vertex moved.state)

-- the node came or went
abbrev pub IsMove : Outcome → TableValue → TableValue → Moved → Type 0
IsMove outcome old new moved = HasOutcome outcome (value_by old moved) (value_by new moved)

-- the same node
abbrev pub same_moved : Moved → Moved → Bool
same_moved first second = (first.vertex == second.vertex)
    && ((first.root == second.root) && (first.state == second.state))

-- all nodes that came or went did the same
abbrev pub MovesOneWay : Outcome → TableValue → TableValue → Type 0
MovesOneWay outcome old new = (each : Outcome) (moved : Moved) → IsMove each old new moved →
    each ≡ outcome

-- the list has exactly the nodes that came or went, each once, and all did the same
pub record AreMoves (outcome : Outcome) (old new : TableValue) (moves : List Moved) : Type 0 where
  pub exact : (moved : Moved) → Contains moves moved ↔ IsMove outcome old new moved
  pub once : IsDistinct same_moved moves
  pub way : MovesOneWay outcome old new

-- the same of those with a final state
pub record AreFinalMoves (finals : List ℕ) (outcome : Outcome) (old new : TableValue)
    (moves : List Moved) : Type 0 where
  pub exact : (moved : Moved) → Contains moves moved
      ↔ (Contains finals moved.state × IsMove outcome old new moved)
  pub once : IsDistinct same_moved moves
  pub way : MovesOneWay outcome old new

-- the one has a lesser vertex, or the same and a root that is no greater
abbrev pub IsUpTo : Moved → Moved → Type 0
IsUpTo first second = (first.vertex < second.vertex)
    ⊎ ((first.vertex ≡ second.vertex) × (first.root ≤ second.root))

-- in the order of their vertices and then of their roots
abbrev pub IsInOrder : List Moved → Type 0
IsInOrder moves = AllPairs IsUpTo moves
