-- What a change does to a forest.
use Rattle.std.specs.Prelude.{◌≡◌, ◌≢◌, ◌⊎◌, ◌↔◌, ℕ, ◌+◌, ◌≤◌, false, List, map, Contains, AllPairs, Option, None, Some, IsSome, ⊤}
use Rattle.std.specs.Ordering.{nat_cmp}
use Rattle.std.specs.List.Sorted.{IsStrictlySortedBy}
use Rattle.edge_store.specs.Edges.{Edges, Expires, JoinsSmall, Updates, raised, value_of}
use Rattle.delta_tree.specs.Nodes.{TreeValue}
use Rattle.source_tree.specs.declared.change.Change.{Change}
use Rattle.source_tree.specs.declared.change.Change.TheVariants.{Raise, Remove, Expire}
use Rattle.source_tree.specs.declared.change.EndChange.{EndChange}
use Rattle.source_tree.specs.declared.change.Reached.{Reached}
use Rattle.source_tree.specs.Ends.{HasOutcome}
use Rattle.source_tree.specs.Taking.{KeepsNodes}
use Rattle.delta_forest.specs.Forest.{ForestValue, IsEnd, IsIndexed, kept, tree_of}

-- a raised edge joins vertices below the greatest number of 32 bits
abbrev pub RaisesSmall : Change → Type 0
RaisesSmall (Raise edge value) = JoinsSmall edge
RaisesSmall (Remove edge) = ⊤
RaisesSmall (Expire now) = ⊤

-- a store takes a change: a raise gives the edge the greater of its value and the new one, a
-- removal takes the edge out, an expiry all edges whose value is at most the clock
abbrev pub TakesChange : Change → Edges → Edges → Type 0
TakesChange (Raise edge value) old new =
    Updates old new edge (Some (raised (value_of old edge) value))
TakesChange (Remove edge) old new = Updates old new edge None
TakesChange (Expire now) old new = Expires old new now

-- in each tree with a root that had one before, no fewer puts were made, and what the change
-- doesn't touch is as it was, with its parent, its parent edge and its stamp
pub record KeepsTrees (change : Change) (old new : ForestValue) : Type 0 where
  pub puts : (root : ℕ) (before after : TreeValue) →
      tree_of old root ≡ Some before → tree_of new root ≡ Some after → before.puts ≤ after.puts
  pub nodes : (root : ℕ) (before after : TreeValue) →
      tree_of old root ≡ Some before → tree_of new root ≡ Some after →
      KeepsNodes change before after

-- the change may touch the tree of this root: it is the vertex that the edge leaves or reaches that
-- vertex; or some value was at most the clock
abbrev pub MayTouch : Change → ForestValue → ForestValue → ℕ → Type 0
MayTouch (Raise edge value) old new root =
    (root ≡ edge.from) ⊎ ((state : ℕ) × IsSome (kept new root edge.from state))
MayTouch (Remove edge) old new root =
    (root ≡ edge.from) ⊎ ((state : ℕ) × IsSome (kept old root edge.from state))
MayTouch (Expire now) old new root = (vertex state value : ℕ)
    × (kept old root vertex state ≡ Some value) × (value ≤ now)

-- the roots are in order, each once; the change may touch the trees of these, and for all other
-- roots what is kept is as it was
pub record AreTouched (change : Change) (old new : ForestValue) (roots : List ℕ) : Type 0 where
  pub sorted : IsStrictlySortedBy nat_cmp roots
  pub only : (root : ℕ) → Contains roots root → MayTouch change old new root
  pub others : (root vertex state : ℕ) → (Contains roots root → ⊥) →
      kept new root vertex state ≡ kept old root vertex state

-- the list has exactly the ends that went or came, each root and vertex once
pub record AreEndChangesOf (old new : ForestValue) (log : List EndChange) : Type 0 where
  pub exact : (each : EndChange) (before after : Option ℕ) →
      IsEnd old each.root each.vertex before → IsEnd new each.root each.vertex after →
      Contains log each ↔ HasOutcome each.outcome before after
  pub once : AllPairs (λ (first second : EndChange).
      (first.root ≢ second.root) ⊎ (first.vertex ≢ second.vertex)) log

-- a forest took a change: its store did, its trees have the best paths of the store, what the
-- change doesn't touch is as it was, and the forest reports the touched roots and exactly the
-- ends that came or went
pub record Applies (change : Change) (old new : ForestValue) : Type 0 where
  pub store : TakesChange change old.store new.store
  pub indexed : IsIndexed new
  pub keeps : KeepsTrees change old new
  pub touched : AreTouched change old new new.touched
  pub log : AreEndChangesOf old new new.log
  pub calls : new.calls ≡ old.calls + 1
  pub unbroken : new.broken ≡ false

-- the list has exactly the vertices with an end, as seen from the root, in rising order, each with
-- it
pub record AreReachedFrom (forest : ForestValue) (root : ℕ) (reached : List Reached)
    : Type 0 where
  pub exact : (vertex value : ℕ) →
      Contains reached (record { vertex = vertex; value = value })
      ↔ IsEnd forest root vertex (Some value)
  pub sorted : IsStrictlySortedBy nat_cmp (map (λ (each : Reached). each.vertex) reached)
