use Rattle.std.proofs.Common.{get_or, rules}
use Rattle.std.proofs.lemmas.List.{get_or_default}
use Rattle.rpq_text.specs.declared.ends.SinkName.TheVariants.{Events}
use Rattle.rpq_text.specs.ErrorLines.{write_line}
use Rattle.rpq_run.proofs.ErrorTexts.{tells_as, tells_element}
use Rattle.rpq_run.proofs.errors.tell_writes.Goals as goal

pub returns-in_err-put_line : goal.returns-in_err-put_line
returns-in_err-put_line g c =
    let failed = c.args.failed.now in
    let place = c.loop-sink.sink-index in
    let sink = get_or failed place Events in
    tells_element write_line failed place sink c.loop-sink-test.true
    (get_or_default failed place Events sink c.loop-sink-test.true) c.loop-sink.invariant.written
    c.loop-sink.invariant.quiet (search rules) (tells_as c.write_line.ensures c.in_err-put_line.ensures)
