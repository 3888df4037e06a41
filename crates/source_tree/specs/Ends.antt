-- The ends of the vertices that a tree reaches: the greatest values of their nodes with a final
-- state.
use Rattle.std.specs.Prelude.{◌≡◌, ◌≢◌, ◌↔◌, ℕ, Bool, true, false, max, List, [], ◌∷◌, map, Contains, AllPairs}
use Rattle.std.specs.Prelude.{Option, None, Some, IsSome}
use Rattle.std.specs.Ordering.{nat_cmp}
use Rattle.std.specs.List.Sorted.{IsStrictlySortedBy}
use Rattle.delta_tree.specs.declared.node.NodeId.{NodeId}
use Rattle.delta_tree.specs.Nodes.{TreeValue, node_id, value_of}
use Rattle.source_tree.specs.declared.change.EndChange.{EndChange}
use Rattle.source_tree.specs.declared.change.Outcome.{Outcome}
use Rattle.source_tree.specs.declared.change.Outcome.TheVariants.{Lost, Gained}
use Rattle.source_tree.specs.declared.change.Reached.{Reached}

-- a tree, and what the last change did to it: the places where nodes came or went, the ends that
-- did, whether it touched the tree, and whether memory ran out in it
pub record SourceValue : Type 0 where
  pub tree : TreeValue
  pub moved : List NodeId
  pub log : List EndChange
  pub touched : Bool
  pub broken : Bool

-- the greater of two numbers that may be there
abbrev pub later : Option ℕ → Option ℕ → Option ℕ
later None second = second
later (Some first) None = Some first
later (Some first) (Some second) = Some (max first second)

-- the greatest of those that are there
abbrev pub greatest : List (Option ℕ) → Option ℕ
greatest [] = None
greatest (first ∷ rest) = later first (greatest rest)

-- the end of a vertex in a tree, where these are the final states
abbrev pub end_in : List ℕ → TreeValue → ℕ → Option ℕ
end_in finals tree vertex =
    greatest (map (λ state. value_of tree (node_id vertex state)) finals)

-- whether an end with this outcome comes
abbrev pub is_gain : Outcome → Bool
is_gain Lost = false
is_gain Gained = true

-- of an end before and after a change: it went, or it came
abbrev pub HasOutcome : Outcome → Option ℕ → Option ℕ → Type 0
HasOutcome Lost before after = IsSome before × (after ≡ None)
HasOutcome Gained before after = (before ≡ None) × IsSome after

-- the end of a vertex with its outcome, as seen from a root
abbrev pub end_change : ℕ → ℕ → Outcome → EndChange
end_change root vertex outcome = record { root = root; vertex = vertex; outcome = outcome }

-- of these ends of the vertices before and after, the list has exactly those that went or came, as
-- seen from the root, each once
pub record AreEndChanges (root : ℕ) (before after : ℕ → Option ℕ) (log : List EndChange)
    : Type 0 where
  pub exact : (each : EndChange) → Contains log each
      ↔ ((each.root ≡ root)
      × HasOutcome each.outcome (before each.vertex) (after each.vertex))
  pub once : AllPairs (λ (first second : EndChange). first.vertex ≢ second.vertex) log

-- the list has exactly the vertices with an end, where these are the final states, in rising order,
-- each with its end
pub record AreReached (finals : List ℕ) (tree : TreeValue) (reached : List Reached) : Type 0 where
  pub exact : (vertex value : ℕ) →
      Contains reached (record { vertex = vertex; value = value })
      ↔ (end_in finals tree vertex ≡ Some value)
  pub sorted : IsStrictlySortedBy nat_cmp (map (λ (each : Reached). each.vertex) reached)
