use Rattle.std.proofs.Common.{◌≡◌, Some, slice_get, refl, sym, ap, subst, ◌∙◌, arith}
use Rattle.std.specs.List.{swap_remove}
use Rattle.std.proofs.lemmas.Option.{slice_get_read}
use Rattle.delta_tree.specs.Nodes.{node_in}
use Rattle.delta_tree.specs.Spots.{ArePaired, joined}
use Rattle.delta_tree.proofs.Joined.{less_paired, less_now, within_values, within_rests}
use Rattle.delta_tree.proofs.node_map.NodeMap.remove_at.Goals as goal
use Rattle.delta_tree.proofs.node_map.NodeMap.remove_at.Goals.{After-give_back}

pub remove_at-requires : goal.remove_at-requires
remove_at-requires c =
    within_values c.self.inside.values c.self.inside.rests.items c.self.invariant
    c.args.self.now c.self.view_is c.args.place c.requires

pub swap_remove-requires : goal.swap_remove-requires
swap_remove-requires c = omega (
  arith,
  within_rests c.self.inside.values c.self.inside.rests.items c.self.invariant
      c.args.self.now c.self.view_is c.args.place c.requires,
  c.self.inside.rests.ok.0,
)

-- what stood there
stood : (c : goal.After-give_back) →
    slice_get c.self.inside.rests.items c.args.place ≡ Some c.swap_remove.result
stood c =
    slice_get_read c.self.inside.rests.items _ c.args.place c.swap_remove.result refl
    (within_rests c.self.inside.values c.self.inside.rests.items c.self.invariant
    c.args.self.now c.self.view_is c.args.place c.requires)
    c.swap_remove.ensures.value

-- what is left
left : (c : goal.After-give_back) → c.give_back.new.list.items
    ≡ swap_remove c.self.inside.rests.items c.args.place c.swap_remove.result
left c = c.give_back.ensures ∙ c.swap_remove.ensures.items

pub invariant_of-self : goal.invariant_of-self
invariant_of-self c =
    subst (ArePaired c.remove_at.new.self) (sym (left c))
    (less_paired c.self.inside.values c.self.inside.rests.items c.self.invariant
    c.args.self.now c.self.view_is c.remove_at.new.self c.args.place c.swap_remove.result
    c.requires (stood c) c.remove_at.ensures)

pub returns : goal.returns
returns c id old stands each =
    ap (λ rests. node_in (joined c.remove_at.new.self rests) each) (left c)
    ∙ less_now c.self.inside.values c.self.inside.rests.items c.self.invariant
    c.args.self.now c.self.view_is c.remove_at.new.self c.args.place c.swap_remove.result
    c.requires (stood c) c.remove_at.ensures id old stands each
