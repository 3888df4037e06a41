use Rattle.std.proofs.Common.{◌≡◌, ◌+◌, Some, length, slice_get, take, sym, ap, subst, ◌∙◌, true≢false, arith}
use Rattle.std.proofs.lemmas.List.{length-map}
use Rattle.delta_tree.specs.declared.node.NodeId.{NodeId}
use Rattle.delta_tree.specs.Nodes.{Node, TreeValue, ids_of}
use Rattle.delta_tree.proofs.Below.{AreFoundBelow, found_none, found_one, found_no_more, found_all, adds_id}
use Rattle.delta_tree.proofs.tree.Tree.set_below.Goals as goal
use Rattle.delta_tree.proofs.tree.Tree.set_below.Goals.{then-is_below+in_ok-insert, else-is_below}

pub loop-place-init : goal.loop-place-init
loop-place-init c =
    found_none c.args.self.now c.args.edge c.new-below.result.keys c.new-below.ensures.len

pub loop-place-preserved : goal.loop-place-preserved
loop-place-preserved c =
    let here : slice_get (ids_of c.args.self.now) c.loop-place.place ≡ Some c.id_at-id.result =
    sym (ap (λ (tree : TreeValue). slice_get (ids_of tree) c.loop-place.place) c.self.view_is)
    ∙ c.id_at-id.ensures in
    elim c.if-is_below.branch [
      | then-is_below+in_ok-insert w ↦
          subst (λ below. AreFoundBelow c.args.self.now c.args.edge
          (take (c.loop-place.place + 1) (ids_of c.args.self.now)) below.keys)
          (sym w.below-is)
          (found_one c.args.self.now c.args.edge (ids_of c.args.self.now) c.loop-place.place
          c.id_at-id.result c.loop-place.below.keys here c.loop-place.invariant
          w.insert.new.self.keys (c.is_below.ensures.0 w.if-is_below.true)
          (adds_id c.loop-place.below.keys w.insert.new.self.keys c.id_at-id.result
          w.in_ok-insert.ensures.updates.0))
      | else-is_below w ↦
          subst (λ below. AreFoundBelow c.args.self.now c.args.edge
          (take (c.loop-place.place + 1) (ids_of c.args.self.now)) below.keys)
          (sym w.below-is)
          (found_no_more c.args.self.now c.args.edge (ids_of c.args.self.now) c.loop-place.place
          c.id_at-id.result c.loop-place.below.keys here c.loop-place.invariant
          (λ below. true≢false
          (sym (c.is_below.ensures.1 below) ∙ w.if-is_below.false)))
    ]

pub returns : goal.returns
returns c =
    found_all c.args.self.now c.args.edge c.loop-place.place c.loop-place.below.keys
    (omega (
      arith,
      c.loop-place-test.false,
      c.len-place-end.ensures.count,
      ap (λ (tree : TreeValue). length tree.nodes) c.self.view_is,
      length-map c.args.self.now.nodes (λ (each : NodeId × Node). each.0),
    ))
    c.loop-place.invariant
