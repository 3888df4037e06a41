use Rattle.std.proofs.Common.{rules, ◌++◌}
use Rattle.std.specs.List.{flat_map}
use Rattle.rpq_text.specs.ErrorLines.{write_line, reader_lines, memory_line, run_lines}
use Rattle.rpq_run.proofs.ErrorTexts.{tells_as, tells_failed, tells_then}
use Rattle.rpq_run.proofs.errors.tell_end.Goals as goal

pub returns-in_err-tell_ends : goal.returns-in_err-tell_ends
unfolding run_lines
returns-in_err-tell_ends g c =
    tells_failed (flat_map write_line c.args.failed.now
    ++ (reader_lines 1 c.args.readers.now ++ memory_line c.args.status)) (search rules)
    c.in_err-tell_ends.ensures

pub returns-in_err-tell_writes : goal.returns-in_err-tell_writes
unfolding run_lines
returns-in_err-tell_writes g c =
    tells_then c.in_ok-tell_ends.ensures
    (tells_failed (reader_lines 1 c.args.readers.now ++ memory_line c.args.status) (search rules)
    c.in_err-tell_writes.ensures)

pub returns-in_err-tell_readers : goal.returns-in_err-tell_readers
unfolding run_lines
returns-in_err-tell_readers g c =
    tells_then c.in_ok-tell_ends.ensures
    (tells_then c.in_ok-tell_writes.ensures
    (tells_failed (memory_line c.args.status) (search rules) c.in_err-tell_readers.ensures))

pub returns : goal.returns
unfolding run_lines
returns g c =
    tells_then c.in_ok-tell_ends.ensures
    (tells_then c.in_ok-tell_writes.ensures
    (tells_then c.in_ok-tell_readers.ensures (tells_as c.memory_line.ensures c.put_line.ensures)))
