use Rattle.std.proofs.Common.{◌≡◌, cond, None, take}
use Rattle.std.specs.List.{list_any}
use Rattle.delta_tree.specs.declared.node.NodeId.{NodeId}
use Rattle.delta_tree.specs.Nodes.{same_node, node_in}
use Rattle.delta_tree.proofs.cut.take_out.Given as goal

-- the first of the nodes are out
abbrev pub invariant-loop-id : goal.invariant-loop-id
invariant-loop-id l = (id : NodeId) → node_in l.nodes id
    ≡ cond (list_any (same_node id) (take l.id-index l.ids)) None (node_in l.initial.nodes id)
