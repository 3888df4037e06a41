use Rattle.tree_delete.proofs.Told.{AreTold}
use Rattle.tree_delete.proofs.calls.tell_values.Given as goal

abbrev pub invariant-loop-shift : goal.invariant-loop-shift
invariant-loop-shift g l = AreTold (g.T.PathTree.tree l.tree) l.fn.shifts.items l.shift-items
    l.shift-index
