use Rattle.std.proofs.Common.{take, Contains}
use Rattle.state_pairs.specs.Rounds.{Marks}
use Rattle.state_pairs.proofs.search.mark_all.Given as goal

-- the nodes so far are marked
abbrev pub invariant-loop-node : goal.invariant-loop-node
invariant-loop-node l = Marks (Contains (take l.node-index l.nodes)) l.level l.initial.levels l.levels l.initial.found.items l.found.items
