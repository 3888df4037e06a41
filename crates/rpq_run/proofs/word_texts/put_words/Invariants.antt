use Rattle.std.proofs.Common.{◌≡◌, take}
use Rattle.std.specs.List.{flat_map}
use Rattle.std.specs.Io.KnownBytes.{append_known}
use Rattle.rpq_text.specs.WordTexts.{spaced_word}
use Rattle.rpq_run.proofs.word_texts.put_words.Given as goal

-- the texts so far are written, and no write failed
abbrev pub invariant-loop-word : goal.invariant-loop-word
invariant-loop-word g l = record {
  written : g.S.Sink.written l.sink ≡ append_known (g.S.Sink.written l.fn.sink)
      (flat_map (λ word. spaced_word word.now) (take l.word-index l.words));
  quiet : g.S.Sink.faults l.sink ≡ g.S.Sink.faults l.fn.sink;
}
