use Rattle.std.proofs.Common.{◌<◌, Some, option_map, length, refl, sym, ap, ◌∙◌, arith}
use Rattle.std.proofs.lemmas.Option.{slice_get_read, slice_get_within}
use Rattle.delta_tree.specs.Spots.{link_of}
use Rattle.delta_tree.proofs.Joined.{link_now, none_now}
use Rattle.delta_tree.proofs.node_map.NodeMap.get.Goals as goal

pub index-requires : goal.index-requires
index-requires c =
    let (each, at, same) = c.in-Some.ensures.place in
    omega (
      arith,
      slice_get_within c.self.inside.values c.in-Some.place each at,
      c.self.invariant.even,
      c.self.inside.rests.ok.0,
    )

pub returns-in-Some : goal.returns-in-Some
returns-in-Some c =
    let (each, at, same) = c.in-Some.ensures.place in
    let within : c.in-Some.place < length c.self.inside.rests.items = omega (
      arith,
      slice_get_within c.self.inside.values c.in-Some.place each at,
      c.self.invariant.even,
    ) in
    (λ i. Some (record {
      parent = c.link_of.ensures.parent i;
      edge = c.link_of.ensures.edge i;
    }))
    ∙ link_now c.self.inside.values c.self.inside.rests.items c.self.invariant c.args.self.now
    c.self.view_is c.args.id c.in-Some.place each c.index.result.now at
    (slice_get_read c.self.inside.rests.items _ c.in-Some.place c.index.result.now refl within
    c.index.ensures) same

pub returns-in-None : goal.returns-in-None
returns-in-None c =
    sym (ap (option_map link_of) (none_now c.self.inside.values c.self.inside.rests.items
    c.self.invariant c.args.self.now c.self.view_is c.args.id c.in-None.ensures.place))
