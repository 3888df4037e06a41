use Rattle.std.proofs.Common.{slice_set, sym, ap, subst, ◌∙◌, arith}
use Rattle.delta_tree.specs.Nodes.{node_in}
use Rattle.delta_tree.specs.Spots.{ArePaired, joined}
use Rattle.delta_tree.proofs.Joined.{set_paired, set_now, within_values, within_rests}
use Rattle.delta_tree.proofs.node_map.NodeMap.set_at.Goals as goal

pub set_at-requires : goal.set_at-requires
set_at-requires c =
    within_values c.self.inside.values c.self.inside.rests.items c.self.invariant
    c.args.self.now c.self.view_is c.args.place c.requires

pub index_mut-requires : goal.index_mut-requires
index_mut-requires c = omega (
  arith,
  within_rests c.self.inside.values c.self.inside.rests.items c.self.invariant
      c.args.self.now c.self.view_is c.args.place c.requires,
  c.self.inside.rests.ok.0,
)

pub invariant_of-self : goal.invariant_of-self
invariant_of-self c =
    subst (λ rest. ArePaired c.set_at.new.self
    (slice_set c.self.inside.rests.items c.args.place rest)) (sym c.rest_of.ensures)
    (set_paired c.self.inside.values c.self.inside.rests.items c.self.invariant c.args.self.now
    c.self.view_is c.set_at.new.self c.args.place c.args.node c.requires c.set_at.ensures)

pub returns : goal.returns
returns c id old stands each =
    ap (λ rest. node_in (joined c.set_at.new.self
    (slice_set c.self.inside.rests.items c.args.place rest)) each) c.rest_of.ensures
    ∙ set_now c.self.inside.values c.self.inside.rests.items c.self.invariant c.args.self.now
    c.self.view_is c.set_at.new.self c.args.place c.args.node c.requires c.set_at.ensures id old
    stands each
