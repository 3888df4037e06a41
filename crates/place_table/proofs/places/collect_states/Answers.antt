use Rattle.std.proofs.Common.{arith}
use Rattle.place_table.proofs.Reached.{far_none, far_more, far_all}
use Rattle.place_table.proofs.places.collect_states.Goals as goal

pub loop-k-init : goal.loop-k-init
loop-k-init c =
    far_none c.args.hints.now c.args.places.now c.args.vertex c.args.states.now.items c.requires.none

pub loop-k-preserved : goal.loop-k-preserved
loop-k-preserved c =
    far_more c.args.hints.now c.args.places.now c.args.vertex c.loop-k.k c.state_at-state.result
    c.loop-k.states.items c.add_state.new.states.items c.loop-k.invariant c.state_at-state.ensures
    c.in_ok-add_state.ensures

pub returns : goal.returns
returns c =
    far_all c.args.hints.now c.args.places.now c.args.vertex c.loop-k.k c.loop-k.states.items
    c.requires.hinted c.loop-k.invariant
    (omega (arith, c.loop-k-test.false, c.loop-k.auto.k-end, c.len-k-end.ensures))
