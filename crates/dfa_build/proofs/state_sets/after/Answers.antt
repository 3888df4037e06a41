use Rattle.dfa_build.proofs.Filling.{led_to_more}
use Rattle.dfa_build.proofs.state_sets.after.Goals as goal

pub loop-place-preserved : goal.loop-place-preserved
loop-place-preserved c =
    led_to_more c.args.follow.now c.args.set c.loop-place.reach c.union_if-reach.result c.loop-place.place c.contains.result
    c.contains.ensures c.union_if-reach.ensures c.loop-place.invariant
