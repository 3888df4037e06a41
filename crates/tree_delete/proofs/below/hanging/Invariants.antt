use Rattle.std.proofs.Common.{◌≡◌}
use Rattle.dfa_table.specs.DfaValue.{step_of}
use Rattle.tree_delete.specs.Below.{AreWithin, children, starts}
use Rattle.tree_delete.proofs.below.hanging.Given as goal

-- those from the first of the states
abbrev pub invariant-loop-state : goal.invariant-loop-state
invariant-loop-state g l = record {
  found : l.ids.items ≡ children (step_of l.dfa) (g.T.PathTree.tree l.tree) (starts l.edge l.state);
  within : AreWithin l.dfa l.ids.items;
}
