use Rattle.state_pairs.specs.Sources.{AddsSteps}
use Rattle.state_pairs.proofs.sources.add_steps.Given as goal

-- the node is added for each node that a label so far leads to
abbrev pub invariant-loop-label : goal.invariant-loop-label
invariant-loop-label g l = AddsSteps (g.G.Graph.graph l.graph) l.node l.label l.initial.lists l.lists
