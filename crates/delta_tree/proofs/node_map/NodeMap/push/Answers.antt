use Rattle.std.proofs.Common.{◌≡◌, ◌++◌, ◌∷◌, [], sym, subst, ◌∙◌}
use Rattle.delta_tree.specs.Nodes.{node_in}
use Rattle.delta_tree.specs.Spots.{ArePaired, joined, rest_of}
use Rattle.delta_tree.proofs.Joined.{no_value, push_paired, push_now}
use Rattle.delta_tree.proofs.node_map.NodeMap.push.Goals as goal
use Rattle.delta_tree.proofs.node_map.NodeMap.push.Goals.{After-push_reserved}

pub push-requires : goal.push-requires
push-requires c =
    no_value c.self.inside.values c.self.inside.rests.items c.self.invariant
    c.args.self.now c.self.view_is c.args.id c.args.node c.requires

-- the rests with the new one
more : (c : goal.After-push_reserved) → c.push_reserved.new.self.items
    ≡ c.self.inside.rests.items ++ rest_of c.args.node ∷ []
more c =
    c.push_reserved.ensures.items
    ∙ (λ i. c.make_room.ensures.same i ++ c.rest_of.ensures i ∷ [])

pub invariant_of-self-2 : goal.invariant_of-self-2
invariant_of-self-2 c =
    subst (ArePaired c.push.new.self) (sym (more c))
    (subst (λ values. ArePaired values (c.self.inside.rests.items ++ rest_of c.args.node ∷ []))
    (sym c.in_ok-push.ensures.pushed)
    (push_paired c.self.inside.values c.self.inside.rests.items c.self.invariant
    c.args.self.now c.self.view_is c.args.id c.args.node c.requires))

pub returns-clause-put : goal.returns-clause-put
returns-clause-put c each =
    (λ i. node_in (joined (c.in_ok-push.ensures.pushed i) (more c i)) each)
    ∙ push_now c.self.inside.values c.self.inside.rests.items c.self.invariant
    c.args.self.now c.self.view_is c.args.id c.args.node c.requires each
