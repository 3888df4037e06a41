-- Levels while they are found, round after round. No public contract cites this file.
use Rattle.std.specs.Prelude.{◌≡◌, ℕ, suc, ◌<◌, ◌≤◌, List, [], length, Contains, Option, Some, None, ◌⊎◌, ◌↔◌}
use Rattle.state_pairs.specs.Goals.{GoalGraph, ReachesGoal, level_at, HasLevelUpTo}
use Rattle.state_pairs.specs.Sources.{sources_at}

-- the levels up to a depth
pub record AreLevelsUpTo (graph : GoalGraph) (depth : ℕ) (levels : List (Option ℕ)) : Type 0 where
  pub as_many : length levels ≡ graph.node_count
  pub low : (node level : ℕ) → level_at levels node ≡ Some level → level ≤ depth
  pub short : (node level : ℕ) → level_at levels node ≡ Some level →
      (word : List ℕ) × (length word ≡ level) × ReachesGoal graph node word
  pub least : (node : ℕ) (word : List ℕ) → node < graph.node_count →
      ReachesGoal graph node word → length word ≤ depth → HasLevelUpTo levels node (length word)

-- the nodes of this level
abbrev pub AreOfLevel : List (Option ℕ) → ℕ → List ℕ → Type 0
AreOfLevel levels level nodes =
    (node : ℕ) → Contains nodes node ↔ (level_at levels node ≡ Some level)

-- a label leads from the node to one of this level
pub record IsNear (graph : GoalGraph) (levels : List (Option ℕ)) (depth node : ℕ) : Type 0 where
  pub label : ℕ
  pub next : ℕ
  pub within : label < graph.label_count
  pub leads : graph.leads node label ≡ Some next
  pub level : level_at levels next ≡ Some depth

-- the nodes that are meant get the level, where they had none, and are put to those found
pub record Marks (IsMeant : ℕ → Type 0) (level : ℕ) (before after : List (Option ℕ))
    (found more : List ℕ) : Type 0 where
  pub as_many : length after ≡ length before
  pub kept : (node old : ℕ) → level_at before node ≡ Some old → level_at after node ≡ Some old
  pub meant : (node : ℕ) → IsMeant node → level_at before node ≡ None →
      level_at after node ≡ Some level
  pub new : (node now : ℕ) → level_at before node ≡ None → level_at after node ≡ Some now →
      (now ≡ level) × IsMeant node
  pub listed : (node : ℕ) → Contains more node
      ↔ (Contains found node ⊎ ((level_at before node ≡ None) × (level_at after node ≡ Some level)))

-- one of the nodes is a target of this source
abbrev pub LeadsToOne : List (List ℕ) → List ℕ → ℕ → Type 0
LeadsToOne lists targets source =
    (target : ℕ) × Contains targets target × Contains (sources_at lists target) source

-- one round: the sources of the last nodes get the level, where they had none, and are found
abbrev pub IsRound : (lists : List (List ℕ)) (last : List ℕ) (level : ℕ)
    (before after : List (Option ℕ)) (found : List ℕ) → Type 0
IsRound lists last level before after found =
    Marks (LeadsToOne lists last) level before after [] found

-- the level of a node after one round: the one that it had, or the next one where it is near the
-- last level
pub record IsNextLevel (graph : GoalGraph) (levels : List (Option ℕ)) (depth node : ℕ)
    (before after : Option ℕ) : Type 0 where
  pub kept : (level : ℕ) → before ≡ Some level → after ≡ Some level
  pub near : before ≡ None → IsNear graph levels depth node → after ≡ Some (suc depth)
  pub new : (level : ℕ) → before ≡ None → after ≡ Some level →
      (level ≡ suc depth) × IsNear graph levels depth node

-- one round, as the levels alone show it
pub record IsNextRound (graph : GoalGraph) (depth : ℕ) (before after : List (Option ℕ))
    : Type 0 where
  pub as_many : length after ≡ length before
  pub each : (node : ℕ) → node < length before →
      IsNextLevel graph before depth node (level_at before node) (level_at after node)

-- the least label that leads to a node of this level, and where it leads
pub record IsNearest (graph : GoalGraph) (levels : List (Option ℕ)) (depth node label next : ℕ)
    : Type 0 where
  pub within : label < graph.label_count
  pub leads : graph.leads node label ≡ Some next
  pub level : level_at levels next ≡ Some depth
  pub least : (other further : ℕ) → other < label → graph.leads node other ≡ Some further →
      level_at levels further ≡ Some depth → ⊥
