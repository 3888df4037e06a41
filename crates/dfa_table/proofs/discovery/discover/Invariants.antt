use Rattle.std.proofs.Common.{◌-◌, map}
use Rattle.dfa_table.specs.Discovery.{AreRows}
use Rattle.dfa_table.proofs.discovery.discover.Given as goal

-- the rows so far are those of the start and the first nodes
abbrev pub invariant-nodes : goal.invariant-nodes
invariant-nodes g l = AreRows (g.G.Walk.graph l.graph) l.limit l.fn.first l.nodes.items (map (λ row. row.items) l.rows.items) l.done

-- the nodes that may still come
abbrev pub decreases-nodes : goal.decreases-nodes
decreases-nodes g l = l.limit - l.done
