use Rattle.std.proofs.Common.{◌≡◌, ◌+◌, rules}
use Rattle.plain_checks.proofs.PathFinding.{none_more, none_with_position}
use Rattle.plain_checks.proofs.shown.entry_at.Goals as goal

pub loop-index-preserved : goal.loop-index-preserved
loop-index-preserved c =
    none_more c.args.live.now c.loop-index.index c.index-live-index.result c.in_ok-place.place c.loop-index-test.true c.index-live-index.is
    c.if-each-place.false c.loop-index.invariant

pub returns-clause-none : goal.returns-clause-none
returns-clause-none c =
    let position : c.args.position ≡ c.in_ok-place.place + 1 = search rules in
    none_with_position c.args.live.now c.loop-index.index c.in_ok-place.place c.args.position c.loop-index.invariant
    c.loop-index-test.false position
