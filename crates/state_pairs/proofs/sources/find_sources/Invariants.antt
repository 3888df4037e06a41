use Rattle.state_pairs.specs.Sources.{AreSources}
use Rattle.state_pairs.proofs.sources.find_sources.Given as goal

-- the steps from the nodes so far
abbrev pub invariant-loop-node : goal.invariant-loop-node
invariant-loop-node g l = AreSources (g.G.Graph.graph l.graph) l.node l.lists.items
