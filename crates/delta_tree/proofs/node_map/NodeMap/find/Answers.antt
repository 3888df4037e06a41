use Rattle.std.proofs.Common.{Some, option_map, sym, ap, ◌∙◌}
use Rattle.std.proofs.lemmas.Option.{slice_get_within}
use Rattle.delta_tree.specs.Nodes.{Node, same_node}
use Rattle.delta_tree.proofs.Ids.{some_is_one}
use Rattle.delta_tree.proofs.Joined.{found_now, none_now}
use Rattle.delta_tree.proofs.node_map.NodeMap.find.Goals as goal

pub at-requires : goal.at-requires
at-requires c =
    let (each, at, same) = c.in-Some.ensures.place in
    slice_get_within c.self.inside.values c.in-Some.place each at

pub returns-in-Some-clause-spot : goal.returns-in-Some-clause-spot
returns-in-Some-clause-spot c =
    let (each, at, same) = c.in-Some.ensures.place in
    found_now c.self.inside.values c.self.inside.rests.items c.self.invariant c.args.self.now
    c.self.view_is c.args.id c.in-Some.place c.at.result c.at.ensures
    (ap (λ (e : _ × _). same_node c.args.id e.0)
    (some_is_one c.at.result each (sym c.at.ensures ∙ at)) ∙ same)

pub returns-in-Some-clause-value : goal.returns-in-Some-clause-value
returns-in-Some-clause-value c =
    let (node, stands, found, is) = returns-in-Some-clause-spot c in
    ap Some (sym is) ∙ sym (ap (option_map (λ (node : Node). node.value)) found)

pub returns-in-None-clause-spot : goal.returns-in-None-clause-spot
returns-in-None-clause-spot c =
    none_now c.self.inside.values c.self.inside.rests.items c.self.invariant c.args.self.now
    c.self.view_is c.args.id c.in-None.ensures.place

pub returns-in-None-clause-value : goal.returns-in-None-clause-value
returns-in-None-clause-value c =
    sym (ap (option_map (λ (node : Node). node.value)) (returns-in-None-clause-spot c))
