use Rattle.std.proofs.Common.{Bool, ◌&&◌, refl, sym, ap, ◌∙◌, eq-eqb, ne_eqb, arith}
use Rattle.std.proofs.lemmas.Option.{slice_get_read}
use Rattle.edge_store.specs.Edges.{same_edge}
use Rattle.delta_tree.specs.Paths.{hangs_by}
use Rattle.delta_tree.proofs.Joined.{one_now, stands_at, within_values, within_rests}
use Rattle.delta_tree.proofs.node_map.NodeMap.hangs_at.Goals as goal

pub at-requires : goal.at-requires
at-requires c =
    within_values c.self.inside.values c.self.inside.rests.items c.self.invariant
    c.args.self.now c.self.view_is c.args.place c.requires

pub index-requires : goal.index-requires
index-requires c = omega (
  arith,
  within_rests c.self.inside.values c.self.inside.rests.items c.self.invariant
      c.args.self.now c.self.view_is c.args.place c.requires,
  c.self.inside.rests.ok.0,
)

pub returns-then-at-edge : goal.returns-then-at-edge
returns-then-at-edge c each stands =
    c.eq.ensures
    ∙ ap (λ (b : Bool). b && same_edge c.index.result.now.edge c.args.edge)
    (sym (eq-eqb c.at.result.0.vertex c.args.edge.to c.if-at-edge.true))
    ∙ ap (hangs_by c.args.edge)
    (one_now c.self.inside.values c.self.inside.rests.items c.self.invariant c.args.self.now
    c.self.view_is c.args.place c.at.result c.index.result.now each c.at.ensures
    (slice_get_read c.self.inside.rests.items _ c.args.place c.index.result.now refl
    (within_rests c.self.inside.values c.self.inside.rests.items c.self.invariant
    c.args.self.now c.self.view_is c.args.place c.requires)
    c.index.ensures) stands)

pub returns-else-at-edge : goal.returns-else-at-edge
returns-else-at-edge c each stands =
    let (rest, beside) = stands_at c.self.inside.rests.items c.args.place
    (within_rests c.self.inside.values c.self.inside.rests.items c.self.invariant
    c.args.self.now c.self.view_is c.args.place c.requires) in
    ne_eqb c.at.result.0.vertex c.args.edge.to c.if-at-edge.false
    ∙ ap (λ (b : Bool). b && same_edge rest.edge c.args.edge)
    (sym (ne_eqb c.at.result.0.vertex c.args.edge.to c.if-at-edge.false))
    ∙ ap (hangs_by c.args.edge)
    (one_now c.self.inside.values c.self.inside.rests.items c.self.invariant c.args.self.now
    c.self.view_is c.args.place c.at.result rest each c.at.ensures beside stands)
