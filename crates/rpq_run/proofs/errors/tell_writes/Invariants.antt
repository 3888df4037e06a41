use Rattle.std.proofs.Common.{◌≡◌, take}
use Rattle.std.specs.List.{flat_map}
use Rattle.std.specs.Io.KnownBytes.{append_known}
use Rattle.rpq_text.specs.ErrorLines.{write_line}
use Rattle.rpq_run.proofs.errors.tell_writes.Given as goal

-- the lines so far are written, and no write failed
abbrev pub invariant-loop-sink : goal.invariant-loop-sink
invariant-loop-sink g l = record {
  written : g.S.Sink.written l.errors ≡ append_known (g.S.Sink.written l.fn.errors)
      (flat_map write_line (take l.sink-index l.failed));
  quiet : g.S.Sink.faults l.errors ≡ g.S.Sink.faults l.fn.errors;
}
