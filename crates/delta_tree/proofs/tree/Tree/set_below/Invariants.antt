use Rattle.std.proofs.Common.{take}
use Rattle.delta_tree.specs.Nodes.{ids_of}
use Rattle.delta_tree.proofs.Below.{AreFoundBelow}
use Rattle.delta_tree.proofs.tree.Tree.set_below.Given as goal

-- of the first nodes, the ones below the edge are found
abbrev pub invariant-loop-place : goal.invariant-loop-place
invariant-loop-place l = AreFoundBelow l.self l.edge (take l.place (ids_of l.self)) l.below.keys
