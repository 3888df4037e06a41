use Rattle.std.proofs.Common.{◌<◌, ◌≤◌, length, arith}
use Rattle.join_bindings.proofs.Sharing.{none_follow, one_follows, all_follow}
use Rattle.join_bindings.proofs.overlap.renew_all.Goals as goal

pub loop-place-init : goal.loop-place-init
loop-place-init c = none_follow c.args.sets.now c.args.event.now c.args.overlaps.now.items

pub loop-place-preserved : goal.loop-place-preserved
loop-place-preserved c =
    let within : c.loop-place.place < length c.loop-place.overlaps.items =
    omega (arith, c.loop-place-test.true, c.loop-place.invariant.as_many) in
    one_follows c.args.sets.now c.args.event.now c.args.overlaps.now.items c.loop-place.overlaps.items c.loop-place.place
    c.index_mut.result.now c.renew.new.self within c.index_mut.ensures.value c.in_ok-renew.ensures c.loop-place.invariant

pub returns : goal.returns
returns c =
    let all : length c.loop-place.overlaps.items ≤ c.loop-place.place =
    omega (arith, c.loop-place-test.false, c.loop-place.invariant.as_many) in
    all_follow c.args.sets.now c.args.event.now c.args.overlaps.now.items c.loop-place.overlaps.items c.loop-place.place all c.loop-place.invariant
