use Rattle.query_index.specs.RootList.{AreFlagged}
use Rattle.query_index.proofs.root_list.take_out.Given as goal

-- the roots that are left are those whose flags are set
abbrev pub invariant-loop-root : goal.invariant-loop-root
invariant-loop-root l = AreFlagged l.roots.items l.flags.items

abbrev pub decreases-loop-root : goal.decreases-loop-root
decreases-loop-root l = goal.left-loop-root l
