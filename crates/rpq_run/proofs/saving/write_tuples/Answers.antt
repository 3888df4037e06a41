use Rattle.std.proofs.Common.{◌≡◌, ◌++◌, List, ℕ, ◌+◌, drop, true, refl, ap, sym, ◌∙◌}
use Rattle.saved_window.specs.SavedText.{saved_text}
use Rattle.rpq_run.proofs.Replying.{part_in_turn}
use Rattle.rpq_run.proofs.Windows.{lines_from, written_line, written_more}
use Rattle.rpq_run.proofs.saving.write_tuples.Goals as goal

pub returns-in-Err : goal.returns-in-Err
returns-in-Err g c =
    let place = c.loop-tuple.tuple-index in
    let tuple = c.tuple-item.result in
    let tuples = c.args.tuples.now in
    let has = c.loop-tuple.invariant.written in
    let all : has.done ++ (written_line tuple ++ saved_text (drop (place + 1) tuples)) ≡ saved_text tuples =
    ap (λ (t : List ℕ). has.done ++ t)
    (sym (lines_from tuples place tuple c.loop-tuple-test.true c.tuple-item.is)) ∙ has.cut in
    part_in_turn {text = written_line tuple} has.done (saved_text (drop (place + 1) tuples)) (saved_text tuples) all
    has.written c.loop-tuple.invariant.quiet c.in-Err.ensures

pub loop-tuple-preserved : goal.loop-tuple-preserved
loop-tuple-preserved g c =
    let place = c.loop-tuple.tuple-index in
    let tuple = c.tuple-item.result in
    record {
      written = written_more c.args.tuples.now place tuple (g.K.Sink.written c.args.sink.now)
          (g.K.Sink.written c.loop-tuple.sink) (g.K.Sink.written c.write_line.new.sink) c.loop-tuple-test.true
          c.tuple-item.is c.loop-tuple.invariant.written (c.in_default.ensures.whole (refl {a = true}));
      quiet = c.in_default.ensures.counted.quiet (λ failed. cc failed) ∙ c.loop-tuple.invariant.quiet;
    }
