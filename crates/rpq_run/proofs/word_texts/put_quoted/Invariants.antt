use Rattle.std.proofs.Common.{◌≡◌, take}
use Rattle.std.specs.List.{flat_map}
use Rattle.std.specs.Io.KnownBytes.{append_known}
use Rattle.path_syntax.specs.Grammar.{escaped}
use Rattle.rpq_run.proofs.word_texts.put_quoted.Given as goal

-- the texts so far are written, and no write failed
abbrev pub invariant-loop-byte : goal.invariant-loop-byte
invariant-loop-byte g l = record {
  written : g.S.Sink.written l.sink ≡ append_known (g.S.Sink.written l.fn.sink)
      (flat_map escaped (take l.byte-index l.name));
  quiet : g.S.Sink.faults l.sink ≡ g.S.Sink.faults l.fn.sink;
}
