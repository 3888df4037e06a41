use Rattle.std.proofs.Common.{◌≡◌}
use Rattle.rpq_run.proofs.ErrorTexts.{HasToldReaders}
use Rattle.rpq_run.proofs.errors.tell_readers.Given as goal

-- the lines so far are written, and no write failed
abbrev pub invariant-loop-place : goal.invariant-loop-place
invariant-loop-place g l = record {
  written : HasToldReaders l.readers l.place (g.S.Sink.written l.fn.errors) (g.S.Sink.written l.errors);
  quiet : g.S.Sink.faults l.errors ≡ g.S.Sink.faults l.fn.errors;
}
