use Rattle.std.proofs.Common.{◌≡◌, cond, None, take}
use Rattle.std.specs.List.{list_any}
use Rattle.delta_tree.specs.declared.node.NodeId.{NodeId}
use Rattle.delta_tree.specs.Nodes.{same_node}
use Rattle.place_table.specs.Kept.{kept_at}
use Rattle.place_table.specs.Links.{KeepsKept}
use Rattle.place_table.proofs.taking.take_out.Given as goal

-- the first of the nodes are out
abbrev pub invariant-loop-id : goal.invariant-loop-id
invariant-loop-id l = record {
  own : (id : NodeId) → kept_at l.places l.root id
      ≡ cond (list_any (same_node id) (take l.id-index l.ids)) None
      (kept_at l.initial.places l.root id);
  others : KeepsKept l.initial.places l.places l.root;
}
