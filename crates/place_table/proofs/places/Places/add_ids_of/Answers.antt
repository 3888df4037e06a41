use Rattle.std.proofs.Common.{◌++◌, List, ap, subst, ◌∙◌}
use Rattle.std.specs.List.{IsDistinct}
use Rattle.std.specs.Map.{keys_of}
use Rattle.delta_tree.specs.declared.node.NodeId.{NodeId}
use Rattle.delta_tree.specs.Nodes.{same_node}
use Rattle.place_table.specs.Kept.{Placed, kept_nodes}
use Rattle.place_table.proofs.Found.{ok_then}
use Rattle.place_table.proofs.Linked.{places_once}
use Rattle.place_table.proofs.places.Places.add_ids_of.Goals as goal

pub returns-clause-ids : goal.returns-clause-ids
returns-clause-ids c =
    ok_then c.list_ids.result c.list_ids.ensures (λ is.
    is ∙ ap (λ (l : List NodeId). l ++ keys_of (kept_nodes c.deref.result.now c.args.root)) c.requires
    ∙ ap (λ (l : List Placed). keys_of (kept_nodes l c.args.root))
    (c.deref.ensures.value ∙ c.self.view_is))

pub returns-clause-once : goal.returns-clause-once
returns-clause-once c =
    subst (λ (l : List Placed). IsDistinct same_node (keys_of (kept_nodes l c.args.root)))
    c.self.view_is
    (places_once c.self.inside.hints c.self.inside.places.items c.args.root c.self.invariant)
