use Rattle.std.proofs.Common.{arith}
use Rattle.answer_rows.specs.Answers.{has_target}
use Rattle.answer_rows.proofs.Leading.{row_at, counted_more, at_most_one}
use Rattle.answer_rows.proofs.sources_of.count_in.Goals as goal

pub count_one-count-requires : goal.count_one-count-requires
count_one-count-requires c =
    row_at c.args.sources.now c.loop-row.row-index c.loop-row-item.result c.loop-row-test.true c.loop-row-item.is c.requires

pub loop-row-preserved : goal.loop-row-preserved
loop-row-preserved c =
    let to = c.args.to.now in
    let source = c.loop-row-item.result in
    let more = counted_more c.args.sources.now c.loop-row.row-index source to c.loop-row-test.true c.loop-row-item.is
    (row_at c.args.sources.now c.loop-row.row-index source c.loop-row-test.true c.loop-row-item.is c.requires) in
    let most = at_most_one (has_target source.1 to) in
    let one = c.count_one-count.ensures in
    let so_far = c.loop-row.invariant.0 in
    let few = c.loop-row.invariant.1 in
    (omega (arith, more, one, so_far), omega (arith, few, one, most))
