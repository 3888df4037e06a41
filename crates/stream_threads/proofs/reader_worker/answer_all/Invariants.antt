use Rattle.std.proofs.Common.{◌≡◌, ◌-◌}
use Rattle.text_items.specs.Progress.{passed}
use Rattle.stream_threads.specs.Serving.{IsServing, AnswersSoFar}
use Rattle.stream_threads.proofs.reader_worker.answer_all.Given as goal

-- the items that were read are answered, and nothing failed
abbrev pub invariant-loop-end : goal.invariant-loop-end
invariant-loop-end g l = record {
  serving : IsServing g.S.Source.left l.shared.history.now l.work;
  same : l.work.pass.number ≡ l.fn.work.pass.number;
  answered : AnswersSoFar g.S.Source.left g.K.Sink.written l.shared.history.now
      (g.S.Source.left l.fn.work.reader.source) l.work;
  unread : g.S.Source.faults l.work.reader.source ≡ g.S.Source.faults l.fn.work.reader.source;
  unwritten : g.K.Sink.faults l.work.replies ≡ g.K.Sink.faults l.fn.work.replies;
}

-- how many bytes may still be given
abbrev pub decreases-loop-end : goal.decreases-loop-end
decreases-loop-end g l = l.work.reader.byte_limit - passed l.work.reader
