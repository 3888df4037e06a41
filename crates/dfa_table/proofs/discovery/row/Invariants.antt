use Rattle.std.proofs.Common.{◌≡◌, length}
use Rattle.dfa_table.specs.Order.{IsInOrder, greatest_of}
use Rattle.dfa_table.specs.Discovery.{Grows, IsRow}
use Rattle.dfa_table.proofs.discovery.row.Given as goal

-- the steps so far are right, and the nodes are those before and those that they lead to
abbrev pub invariant-loop-label : goal.invariant-loop-label
invariant-loop-label g l = record {
  grows : Grows (g.G.Walk.graph l.graph) l.limit l.front l.initial.nodes.items l.nodes.items;
  row : IsRow (g.G.Walk.graph l.graph) l.nodes.items l.front l.label l.row.items;
  ordered : IsInOrder (length l.initial.nodes.items) l.row.items;
  greatest : greatest_of (length l.initial.nodes.items) l.row.items ≡ length l.nodes.items;
}
