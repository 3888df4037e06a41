use Rattle.std.proofs.Common.{◌∙◌}
use Rattle.saved_window.proofs.Texts.{text_more, stream_more}
use Rattle.saved_window.proofs.text.push_saved.Goals as goal

pub loop-tuple-preserved : goal.loop-tuple-preserved
loop-tuple-preserved c =
    let tuples = c.args.tuples.now in
    let index = c.loop-tuple.tuple-index in
    let tuple = c.tuple-item.result in
    record {
      text_is = c.in_ok-push_line.ensures.ok
          ∙ text_more tuples index tuple c.args.text.now.items c.loop-tuple.text.items c.loop-tuple-test.true c.tuple-item.is
          c.loop-tuple.invariant.text_is;
      stream = stream_more tuples index tuple c.loop-tuple-test.true c.tuple-item.is c.loop-tuple.invariant.stream c.in_ok-push_line.ensures.stream;
    }
