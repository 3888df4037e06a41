use Rattle.std.proofs.Common.{◌≡◌, take}
use Rattle.std.specs.List.{flat_map}
use Rattle.std.specs.Io.KnownBytes.{append_known}
use Rattle.rpq_text.specs.Definitions.{compiled_line}
use Rattle.rpq_run.proofs.check.write_verdicts.Given as goal

-- the texts so far are written, and no write failed
abbrev pub invariant-loop-query : goal.invariant-loop-query
invariant-loop-query g l = record {
  written : g.K.Sink.written l.events ≡ append_known (g.K.Sink.written l.fn.events)
      (flat_map compiled_line (take l.query-index l.queries));
  quiet : g.K.Sink.faults l.events ≡ g.K.Sink.faults l.fn.events;
}
