use Rattle.std.proofs.Common.{◌≡◌}
use Rattle.rpq_run.proofs.Windows.{HasWritten}
use Rattle.rpq_run.proofs.saving.write_tuples.Given as goal

-- the lines of the tuples so far are written, and no write failed
abbrev pub invariant-loop-tuple : goal.invariant-loop-tuple
invariant-loop-tuple g l = record {
  written : HasWritten l.tuples l.tuple-index (g.K.Sink.written l.fn.sink) (g.K.Sink.written l.sink);
  quiet : g.K.Sink.faults l.sink ≡ g.K.Sink.faults l.fn.sink;
}
