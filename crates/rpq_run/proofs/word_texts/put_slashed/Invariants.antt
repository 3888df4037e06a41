use Rattle.std.proofs.Common.{◌≡◌, take}
use Rattle.std.specs.List.{flat_map}
use Rattle.std.specs.Io.KnownBytes.{append_known}
use Rattle.rpq_text.specs.WordTexts.{slashed_label}
use Rattle.rpq_run.proofs.word_texts.put_slashed.Given as goal

-- the texts so far are written, and no write failed
abbrev pub invariant-loop-label : goal.invariant-loop-label
invariant-loop-label g l = record {
  written : g.S.Sink.written l.sink ≡ append_known (g.S.Sink.written l.fn.sink)
      (flat_map slashed_label (take l.label-index l.labels));
  quiet : g.S.Sink.faults l.sink ≡ g.S.Sink.faults l.fn.sink;
}
