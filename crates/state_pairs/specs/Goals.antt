-- Words that lead to a goal, and the least length of one.
use Rattle.std.specs.declared.cmp.Ordering.{Ordering}
use Rattle.std.specs.declared.cmp.Ordering.TheVariants.{Greater}
use Rattle.std.specs.Ordering.{nat_cmp, ordering_then}
use Rattle.std.specs.Cmp.Lexicographic.{slice_cmp}
use Rattle.std.specs.Prelude.{◌≡◌, ◌≢◌, ℕ, ◌<◌, ◌≤◌, Bool, IsTrue, List, [], ◌∷◌, length, Option, Some, None, slice_index_or}

-- the node to which the label of a number leads from a node; the goals; how many nodes and labels
-- there are
pub record GoalGraph : Type 0 where
  pub leads : (node label : ℕ) → Option ℕ
  pub is_goal : (node : ℕ) → Bool
  pub node_count : ℕ
  pub label_count : ℕ

-- labels lead from nodes to nodes
abbrev pub StaysWithin : GoalGraph → Type 0
StaysWithin graph =
    (node label next : ℕ) → graph.leads node label ≡ Some next → next < graph.node_count

-- the word, by the numbers of its labels, leads from the node to a goal
abbrev pub ReachesGoal : GoalGraph → ℕ → List ℕ → Type 0
ReachesGoal graph node [] = IsTrue (graph.is_goal node)
ReachesGoal graph node (label ∷ word) =
    (label < graph.label_count)
    × ((next : ℕ) × (graph.leads node label ≡ Some next) × ReachesGoal graph next word)

-- the level of the node
abbrev pub level_at : List (Option ℕ) → ℕ → Option ℕ
level_at levels node = slice_index_or levels node None

-- the node has a level, and it is at most the bound
abbrev pub HasLevelUpTo : List (Option ℕ) → ℕ → ℕ → Type 0
HasLevelUpTo levels node bound =
    (level : ℕ) × (level_at levels node ≡ Some level) × (level ≤ bound)

-- for each node the least length of a word that leads from it to a goal, where there is one
pub record AreLevels (graph : GoalGraph) (levels : List (Option ℕ)) : Type 0 where
  pub as_many : length levels ≡ graph.node_count
  pub short : (node level : ℕ) → level_at levels node ≡ Some level →
      (word : List ℕ) × (length word ≡ level) × ReachesGoal graph node word
  pub least : (node : ℕ) (word : List ℕ) → node < graph.node_count →
      ReachesGoal graph node word → HasLevelUpTo levels node (length word)

-- words of numbers by their lengths, and of one length number by number
abbrev pub numbers_cmp : List ℕ → List ℕ → Ordering
numbers_cmp first second =
    ordering_then (nat_cmp (length first) (length second)) (slice_cmp nat_cmp first second)

-- the word leads from the node to a goal, and none that does is less
pub record IsLeastWord (graph : GoalGraph) (node : ℕ) (word : List ℕ) : Type 0 where
  pub reaches : ReachesGoal graph node word
  pub least : (other : List ℕ) → ReachesGoal graph node other → numbers_cmp word other ≢ Greater
