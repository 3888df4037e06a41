use Rattle.std.proofs.Common.{◌≡◌, None, cond, Contains, sym, ap, ◌∙◌, subst, refl, ◌≤◌, arith}
use Rattle.due_queue.specs.Queue.{due}
use Rattle.due_queue.proofs.Items.{now_noted, still_noted}
use Rattle.delta_tree.specs.declared.node.NodeId.{NodeId}
use Rattle.delta_tree.specs.Nodes.{node_in, same_node}
use Rattle.delta_tree.specs.Changes.{living}
use Rattle.delta_tree.proofs.Ids.{none_or_some, value_is, value_has_node, changed_there}
use Rattle.delta_tree.proofs.Trees.{living_gone}
use Rattle.delta_tree.proofs.Queue.{pending_later}
use Rattle.delta_tree.proofs.nodes.drop_or_note.Goals as goal

pub returns-in-Some-clause-pending : goal.returns-in-Some-clause-pending
returns-in-Some-clause-pending c =
    pending_later c.args.now c.args.dues.now.items c.note_reserved.new.self.items c.args.id
    c.in-Some.spot.value c.if-spot-now.true c.note_reserved.ensures

pub returns-in-Some-clause-kept : goal.returns-in-Some-clause-kept
returns-in-Some-clause-kept c each there =
    still_noted c.args.dues.now.items c.note_reserved.new.self.items
    (due c.args.id c.in-Some.spot.value) each c.note_reserved.ensures there

pub returns-in-Some-clause-noted : goal.returns-in-Some-clause-noted
returns-in-Some-clause-noted c node is =
    subst (λ value. Contains c.note_reserved.new.self.items (due c.args.id value))
    (sym (value_is (node_in c.args.nodes.now c.args.id) node c.in-Some.spot.value is
    (sym c.in-Some.ensures.value)))
    (now_noted c.args.dues.now.items c.note_reserved.new.self.items
    (due c.args.id c.in-Some.spot.value) c.note_reserved.ensures)

-- the node that was taken out is at most the clock
gone : (c : goal.After-give_back) → living c.args.now
    (node_in c.args.nodes.now c.args.id) ≡ None
gone c =
    let (node, is) = value_has_node (node_in c.args.nodes.now c.args.id) c.in-Some.spot.value
    (sym c.in-Some.ensures.value) in
    living_gone c.args.now (node_in c.args.nodes.now c.args.id) node is
    (subst (λ value. value ≤ c.args.now)
    (sym (value_is (node_in c.args.nodes.now c.args.id) node c.in-Some.spot.value is
    (sym c.in-Some.ensures.value)))
    c.if-spot-now.false)

-- what is left of the nodes
left : (c : goal.After-give_back) (each : NodeId) → node_in c.remove_at.new.self each
    ≡ cond (same_node c.args.id each) None (node_in c.args.nodes.now each)
left c each =
    let (node, stands, found, is) = c.in-Some.ensures.spot in
    c.remove_at.ensures c.args.id node stands each

pub returns-in-Some-2-clause-nodes : goal.returns-in-Some-2-clause-nodes
returns-in-Some-2-clause-nodes c each =
    left c each ∙ ap (λ found. cond (same_node c.args.id each) found
    (node_in c.args.nodes.now each)) (sym (gone c))

pub returns-in-Some-2-clause-noted : goal.returns-in-Some-2-clause-noted
returns-in-Some-2-clause-noted c node is =
    absurd (none_or_some node
    (sym (left c c.args.id
    ∙ changed_there (node_in c.args.nodes.now c.args.id) c.args.id c.args.id None refl)
    ∙ is))

-- ---- what is told

pub returns-in-Some-clause-dropped : goal.returns-in-Some-clause-dropped
returns-in-Some-clause-dropped c (node, is, reached) = omega (
  arith,
  value_is (node_in c.args.nodes.now c.args.id) node c.in-Some.spot.value is
      (sym c.in-Some.ensures.value),
  reached,
  c.if-spot-now.true,
)

pub returns-in-Some-2-clause-dropped : goal.returns-in-Some-2-clause-dropped
returns-in-Some-2-clause-dropped c =
    let (node, stands, found, is) = c.in-Some.ensures.spot in
    (node, found, is, c.if-spot-now.false)

pub returns-in-None-clause-dropped : goal.returns-in-None-clause-dropped
returns-in-None-clause-dropped c (node, is, reached) =
    none_or_some node (sym c.in-None.ensures.spot ∙ is)
