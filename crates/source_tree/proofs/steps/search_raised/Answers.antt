use Rattle.delta_tree.specs.Nodes.{node_id}
use Rattle.source_tree.proofs.steps.search_raised.Goals as goal

pub raise-requires-2-clause-covers : goal.raise-requires-2-clause-covers
raise-requires-2-clause-covers g c state node is =
    (c.states_at-held.ensures state).1 (c.requires.held (node_id c.args.edge.from state) node is)
