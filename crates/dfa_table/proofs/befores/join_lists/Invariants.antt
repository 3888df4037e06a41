use Rattle.std.proofs.Common.{◌≤◌, length}
use Rattle.dfa_table.specs.Befores.{AreJoined}
use Rattle.dfa_table.proofs.befores.join_lists.Given as goal

-- the lists so far stand one after another
abbrev pub invariant-loop-list : goal.invariant-loop-list
invariant-loop-list l = record {
  few : l.list-index ≤ length l.lists;
  joined : AreJoined l.lists l.list-index l.starts.items l.states.items;
}
