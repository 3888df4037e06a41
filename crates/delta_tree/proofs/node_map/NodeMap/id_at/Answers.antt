use Rattle.std.proofs.Common.{ℕ, option_map, slice_get, sym, ap, ◌∙◌}
use Rattle.std.specs.Map.{keys_of}
use Rattle.std.proofs.lemmas.Option.{slice_get-map}
use Rattle.delta_tree.specs.declared.node.NodeId.{NodeId}
use Rattle.delta_tree.proofs.Joined.{joined_keys, within_values}
use Rattle.delta_tree.proofs.node_map.NodeMap.id_at.Goals as goal

pub at-requires : goal.at-requires
at-requires c =
    within_values c.self.inside.values c.self.inside.rests.items c.self.invariant
    c.args.self.now c.self.view_is c.args.place c.requires

pub returns : goal.returns
returns c =
    ap (λ keys. slice_get keys c.args.place)
    (sym (ap keys_of c.self.view_is)
    ∙ joined_keys c.self.inside.values c.self.inside.rests.items c.self.invariant.even)
    ∙ slice_get-map (λ (each : NodeId × ℕ). each.0) c.self.inside.values c.args.place
    ∙ ap (option_map (λ (each : NodeId × ℕ). each.0)) c.at.ensures
