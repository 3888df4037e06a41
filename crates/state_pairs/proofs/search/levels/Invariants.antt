use Rattle.std.proofs.Common.{◌+◌, ◌≤◌, length}
use Rattle.state_pairs.specs.Rounds.{AreLevelsUpTo, AreOfLevel}
use Rattle.state_pairs.proofs.Counts.{lacking}
use Rattle.state_pairs.proofs.search.levels.Given as goal

-- the levels so far, the nodes of the last one, and no more rounds than nodes that have got one
abbrev pub invariant-loop-last : goal.invariant-loop-last
invariant-loop-last g l = record {
  are : AreLevelsUpTo (g.G.Graph.graph l.graph) l.depth l.levels.items;
  of_level : AreOfLevel l.levels.items l.depth l.last.items;
  rounds : l.depth + lacking l.levels.items ≤ length l.levels.items;
}

-- the nodes without a level
abbrev pub decreases-loop-last : goal.decreases-loop-last
decreases-loop-last g l = lacking l.levels.items
