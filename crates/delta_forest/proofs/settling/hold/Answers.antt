use Rattle.std.proofs.Common.{◌≡◌, ◌+◌, ◌<◌, List, length, take, get_or, sym, subst, arith}
use Rattle.std.proofs.lemmas.List.{get_or_default}
use Rattle.delta_tree.specs.declared.node.NodeId.{NodeId}
use Rattle.delta_tree.specs.Nodes.{node_id}
use Rattle.source_tree.specs.Taking.{is_raise}
use Rattle.rpq_base.proofs.Members.{next_one}
use Rattle.delta_forest.specs.Settling.{HoldsAnew}
use Rattle.delta_forest.proofs.Holding.{holds_more}
use Rattle.delta_forest.proofs.settling.hold.Goals as goal

pub loop-id-preserved : goal.loop-id-preserved
loop-id-preserved c =
    let items = c.moved-id-items.result.now in
    let place = c.loop-id.id-index in
    let id : NodeId = get_or items place (node_id 0 0) in
    let within : place < length items = omega (arith, c.loop-id-test.true) in
    let is : id ≡ get_or items place id = get_or_default items place (node_id 0 0) id within in
    let held = is_raise c.args.change in
    let before = subst (λ (ids : List NodeId).
    HoldsAnew c.args.holders.now c.loop-id.holders c.args.root held (take place ids))
    (sym c.moved-id-items.ensures) c.loop-id.invariant in
    subst (λ (ids : List NodeId).
    HoldsAnew c.args.holders.now c.hold_at.new.holders c.args.root held (take (place + 1) ids))
    c.moved-id-items.ensures
    (holds_more c.args.holders.now c.loop-id.holders c.hold_at.new.holders c.args.root held
    (take place items) (take (place + 1) items) id before c.in_ok-hold_at.ensures
    (next_one items place id within is))
