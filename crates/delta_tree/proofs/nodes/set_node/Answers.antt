use Rattle.std.proofs.Common.{◌≡◌, None, subst}
use Rattle.std.specs.Option.{MatchOption}
use Rattle.std.proofs.lemmas.Option.{slice_get_within}
use Rattle.due_queue.specs.Queue.{due, Notes}
use Rattle.delta_tree.specs.Nodes.{node_in}
use Rattle.delta_tree.specs.Spots.{IsSpot}
use Rattle.delta_tree.proofs.Queue.{noted_new, noted_raised}
use Rattle.delta_tree.proofs.nodes.set_node.Goals as goal

-- ---- a node that is raised

pub set_at-requires : goal.set_at-requires
set_at-requires c =
    let (old, stands, found, is) = subst (λ spot. MatchOption spot
    (node_in c.args.nodes.now c.args.id ≡ None) (IsSpot c.args.nodes.now c.args.id))
    c.in-Some.is c.requires.spot in
    slice_get_within c.args.nodes.now c.in-Some.spot.place (c.args.id, old) stands

pub returns-in-Some-clause-nodes : goal.returns-in-Some-clause-nodes
returns-in-Some-clause-nodes c each =
    let (old, stands, found, is) = subst (λ spot. MatchOption spot
    (node_in c.args.nodes.now c.args.id ≡ None) (IsSpot c.args.nodes.now c.args.id))
    c.in-Some.is c.requires.spot in
    c.set_at.ensures c.args.id old stands each

pub returns-in-Some-clause-noted : goal.returns-in-Some-clause-noted
returns-in-Some-clause-noted c =
    let (old, stands, found, is) = subst (λ spot. MatchOption spot
    (node_in c.args.nodes.now c.args.id ≡ None) (IsSpot c.args.nodes.now c.args.id))
    c.in-Some.is c.requires.spot in
    noted_raised c.args.nodes.now c.set_at.new.self c.args.dues.now.items
    c.args.id c.args.node old c.requires.noted (c.set_at.ensures c.args.id old stands) found
    (c.requires.raises old found)

-- ---- a new node

pub push-requires : goal.push-requires
push-requires c =
    subst (λ spot. MatchOption spot (node_in c.args.nodes.now c.args.id ≡ None)
    (IsSpot c.args.nodes.now c.args.id)) c.in-None.is c.requires.spot

pub returns-in_ok-push-in-None-clause-noted : goal.returns-in_ok-push-in-None-clause-noted
returns-in_ok-push-in-None-clause-noted c =
    noted_new c.args.nodes.now c.push.new.self c.args.dues.now.items
    c.note_reserved.new.self.items c.args.id c.args.node
    c.requires.noted c.in_ok-push-in-None.ensures.put
    (subst (λ dues. Notes dues c.note_reserved.new.self.items (due c.args.id c.args.node.value))
    c.reserve.ensures.same c.note_reserved.ensures)
