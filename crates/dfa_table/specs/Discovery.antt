-- The walk through a graph that numbers the nodes in the order in which steps from the start lead
-- to them: the node of number n + 1 is that at place n, and number 0 is the start.
use Rattle.std.specs.Prelude.{◌≡◌, ◌≢◌, ℕ, zero, suc, ◌<◌, ◌≤◌, List, [], length, slice_index_or, All, Option, Some, None, Contains}
use Rattle.std.specs.List.{AllPairs}
use Rattle.dfa_table.specs.Order.{IsInOrder, greatest_of, all_steps}

-- a graph that is walked: a node opens to a front, and from a front the label of each number below
-- the count leads to a node or to none
pub record GraphValue : Type 1 where
  pub label_count : ℕ
  pub opens : (node front : ℕ) → Type 0
  pub leads : (front label : ℕ) → Option ℕ → Type 0

-- a node opens to one front at most, and a label leads from a front one way at most
pub record IsDeterminate (graph : GraphValue) : Type 0 where
  pub one_front : (node front other : ℕ) → graph.opens node front → graph.opens node other →
      front ≡ other
  pub one_way : (front label : ℕ) (step other : Option ℕ) → graph.leads front label step →
      graph.leads front label other → step ≡ other

-- the node at the place
abbrev pub node_at : List ℕ → ℕ → ℕ
node_at nodes place = slice_index_or nodes place 0

-- the label of some number leads from the front to the node
pub record IsNext (graph : GraphValue) (front node : ℕ) : Type 0 where
  pub label : ℕ
  pub within : label < graph.label_count
  pub leads : graph.leads front label (Some node)

-- steps lead from the first front to the node
pub data IsReached (graph : GraphValue) (first : ℕ) : ℕ → Type 0 where
  FromFirst : (node : ℕ) → IsNext graph first node → IsReached graph first node
  FromNode : (before front node : ℕ) → IsReached graph first before →
      graph.opens before front → IsNext graph front node → IsReached graph first node

-- the number of the node
abbrev pub IsNumberOf : List ℕ → ℕ → ℕ → Type 0
IsNumberOf nodes node zero = ⊥
IsNumberOf nodes node (suc place) = (place < length nodes) × (node_at nodes place ≡ node)

-- the step from the front: to the number of the node that the label leads to, or to none
abbrev pub IsStep : GraphValue → List ℕ → ℕ → ℕ → Option ℕ → Type 0
IsStep graph nodes front label None = graph.leads front label None
IsStep graph nodes front label (Some zero) = ⊥
IsStep graph nodes front label (Some (suc place)) =
    (place < length nodes) × graph.leads front label (Some (node_at nodes place))

-- the row of a front: the steps of the labels below a number
pub record IsRow (graph : GraphValue) (nodes : List ℕ) (front width : ℕ)
    (row : List (Option ℕ)) : Type 0 where
  pub even : length row ≡ width
  pub steps : (label : ℕ) → label < width →
      IsStep graph nodes front label (slice_index_or row label None)

-- the row of a node: that of the front to which it opens
pub record IsRowOf (graph : GraphValue) (nodes : List ℕ) (node : ℕ)
    (row : List (Option ℕ)) : Type 0 where
  pub front : ℕ
  pub opens : graph.opens node front
  pub is : IsRow graph nodes front graph.label_count row

-- the nodes that have numbers: distinct, and within the limit
pub record AreNumbered (limit : ℕ) (nodes : List ℕ) : Type 0 where
  pub few : length nodes ≤ limit
  pub apart : AllPairs ◌≢◌ nodes

-- the nodes after a part of a row was made: those before it and the next ones from the front, all
-- distinct and within the limit
pub record Grows (graph : GraphValue) (limit front : ℕ) (before after : List ℕ) : Type 0 where
  pub longer : length before ≤ length after
  pub few : length after ≤ limit
  pub same : (place : ℕ) → place < length before → node_at after place ≡ node_at before place
  pub next : (place : ℕ) → length before ≤ place → place < length after →
      IsNext graph front (node_at after place)
  pub apart : AllPairs ◌≢◌ after

-- as many nodes as the limit are there, and one next from the front isn't among them
pub record IsFull (graph : GraphValue) (limit front : ℕ) (nodes : List ℕ) : Type 0 where
  pub full : length nodes ≡ limit
  pub further : ℕ
  pub next : IsNext graph front further
  pub new : Contains nodes further → ⊥

-- the rows of the start and of the nodes before a place; the nodes are reached, distinct, within
-- the limit, and numbered in the order of discovery
pub record AreRows (graph : GraphValue) (limit first : ℕ) (nodes : List ℕ)
    (rows : List (List (Option ℕ))) (done : ℕ) : Type 0 where
  pub as_many : length rows ≡ suc done
  pub within : done ≤ length nodes
  pub few : length nodes ≤ limit
  pub apart : AllPairs ◌≢◌ nodes
  pub reached : All (IsReached graph first) nodes
  pub start : IsRow graph nodes first graph.label_count (slice_index_or rows 0 [])
  pub others : (place : ℕ) → place < done →
      IsRowOf graph nodes (node_at nodes place) (slice_index_or rows (suc place) [])
  pub order : IsInOrder 0 (all_steps rows)
  pub greatest : greatest_of 0 (all_steps rows) ≡ length nodes

-- one more than the limit of distinct nodes are reached
pub record HasTooMany (graph : GraphValue) (limit first : ℕ) : Type 0 where
  pub nodes : List ℕ
  pub many : length nodes ≡ suc limit
  pub apart : AllPairs ◌≢◌ nodes
  pub reached : All (IsReached graph first) nodes
