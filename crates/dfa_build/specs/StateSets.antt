-- The sets of positions that are states, as the construction keeps them: the state of number n + 1
-- is the set at place n. No public contract cites this file.
use Rattle.std.specs.Prelude.{◌≡◌, ◌≢◌, ℕ, zero, suc, ◌<◌, ◌≤◌, ◌↔◌, ◌&&◌, false, List, [], length, map, slice_index_or, All, IsTrue, Option, Some, None, Contains}
use Rattle.std.specs.List.{AllPairs, slice_get}
use Rattle.rpq_base.specs.declared.data.Label.{Label}
use Rattle.dfa_build.specs.declared.position_set.PositionSet.{PositionSet}
use Rattle.dfa_build.specs.PositionSet.{has}
use Rattle.dfa_build.specs.Positions.{PositionsValue, next_of}
use Rattle.dfa_table.specs.Order.{IsInOrder, greatest_of, all_steps}
use Rattle.dfa_table.specs.Discovery.{GraphValue}

-- the set at the place
abbrev pub set_at : List PositionSet → ℕ → PositionSet
set_at sets place = slice_index_or sets place (record { bits = 0 })

-- the set has a member
abbrev pub HasSome : PositionSet → Type 0
HasSome set = (position : ℕ) × IsTrue (has set position)

-- the members of one set that are in the other too
abbrev pub IsCut : PositionSet → PositionSet → PositionSet → Type 0
IsCut reach mask set = (position : ℕ) → has set position ≡ (has reach position && has mask position)

-- the positions that some member of the set leads to
abbrev pub IsAfter : List PositionSet → PositionSet → PositionSet → Type 0
IsAfter follow set reach = (next : ℕ) →
    IsTrue (has reach next)
    ↔ ((position : ℕ) × (position < length follow) × IsTrue (has set position)
    × IsTrue (has (set_at follow position) next))

-- the sets that the construction works with: for each label the positions with it, for each
-- position those that may stand right after it, the first ones and the last ones
pub record AreSetsOf (positions : PositionsValue) (labels : List Label)
    (first last : PositionSet) (follow masks : List PositionSet) : Type 0 where
  pub labels_of_atoms : (label : Label) → Contains labels label ↔ Contains positions.atoms label
  pub as_many_masks : length masks ≡ length labels
  pub mask : (place position : ℕ) → place < length labels →
      IsTrue (has (set_at masks place) position)
      ↔ (slice_get positions.atoms position ≡ slice_get labels place)
  pub as_many_rows : length follow ≡ length positions.follow
  pub follows : (place position : ℕ) → place < length positions.follow →
      IsTrue (has (set_at follow place) position) ↔ Contains (next_of positions place) position
  pub starts : (position : ℕ) → IsTrue (has first position) ↔ Contains positions.first position
  pub ends : (position : ℕ) → IsTrue (has last position) ↔ Contains positions.last position

-- the step of a state to the cut: to the set that is it, or none where it is empty
abbrev pub IsStepTo : List PositionSet → PositionSet → PositionSet → Option ℕ → Type 0
IsStepTo sets reach mask None = (position : ℕ) → (has reach position && has mask position) ≡ false
IsStepTo sets reach mask (Some zero) = ⊥
IsStepTo sets reach mask (Some (suc place)) =
    (place < length sets) × IsCut reach mask (set_at sets place)

-- the row of a state: for each mask the step to its cut
pub record IsRow (sets : List PositionSet) (reach : PositionSet) (masks : List PositionSet)
    (row : List (Option ℕ)) : Type 0 where
  pub even : length row ≡ length masks
  pub steps : (place : ℕ) → place < length masks →
      IsStepTo sets reach (set_at masks place) (slice_index_or row place None)

-- a nonempty cut by one of the masks
pub record IsOneCut (reach : PositionSet) (masks : List PositionSet) (set : PositionSet)
    : Type 0 where
  pub some : HasSome set
  pub place : ℕ
  pub within : place < length masks
  pub cut : IsCut reach (set_at masks place) set

-- the sets that the construction finds: the cuts of the first positions, and the cuts of what a
-- found set leads to
pub data IsFound (follow masks : List PositionSet) (first : PositionSet)
    : PositionSet → Type 0 where
  FromStart : (set : PositionSet) → IsOneCut first masks set → IsFound follow masks first set
  FromSet : (before reach set : PositionSet) → IsFound follow masks first before →
      IsAfter follow before reach → IsOneCut reach masks set → IsFound follow masks first set

-- the row of the set at the place
pub record IsRowOf (follow masks sets : List PositionSet) (set : PositionSet)
    (row : List (Option ℕ)) : Type 0 where
  pub reach : PositionSet
  pub after : IsAfter follow set reach
  pub is : IsRow sets reach masks row

-- the rows of the start and of the sets before a place; the sets are found, distinct, at most 512
pub record AreRows (follow masks : List PositionSet) (first : PositionSet)
    (sets : List PositionSet) (rows : List (List (Option ℕ))) (done : ℕ) : Type 0 where
  pub as_many : length rows ≡ suc done
  pub within : done ≤ length sets
  pub few : length sets ≤ 512
  pub apart : AllPairs ◌≢◌ sets
  pub found : All (IsFound follow masks first) sets
  pub start : IsRow sets first masks (slice_index_or rows 0 [])
  pub others : (place : ℕ) → place < done →
      IsRowOf follow masks sets (set_at sets place) (slice_index_or rows (suc place) [])
  pub order : IsInOrder 0 (all_steps rows)
  pub greatest : greatest_of 0 (all_steps rows) ≡ length sets

-- 513 distinct sets are found
pub record HasTooMany (follow masks : List PositionSet) (first : PositionSet) : Type 0 where
  pub sets : List PositionSet
  pub many : length sets ≡ 513
  pub apart : AllPairs ◌≢◌ sets
  pub found : All (IsFound follow masks first) sets

-- ---- the sets as nodes of a walk

-- the set of the node
abbrev pub set_of : ℕ → PositionSet
set_of node = record { bits = node }

-- the sets of the nodes
abbrev pub sets_of : List ℕ → List PositionSet
sets_of nodes = map set_of nodes

-- where a mask leads: to the cut, or to none where it is empty
abbrev pub LeadsTo : PositionSet → PositionSet → Option ℕ → Type 0
LeadsTo reach mask None = (position : ℕ) → (has reach position && has mask position) ≡ false
LeadsTo reach mask (Some node) = HasSome (set_of node) × IsCut reach mask (set_of node)

-- the graph of the sets: a set opens to what its members lead to, and of that the mask of a label
-- leads to the cut
abbrev pub set_graph : List PositionSet → List PositionSet → GraphValue
set_graph follow masks = record {
  label_count = length masks;
  opens = λ node front. IsAfter follow (set_of node) (set_of front);
  leads = λ front label node. LeadsTo (set_of front) (set_at masks label) node;
}
