use Rattle.std.proofs.Common.{◌≡◌, ◌+◌, [], ◌∷◌, length, map, sym, ap, ◌∙◌, arith}
use Rattle.std.proofs.Common.{length-append}
use Rattle.std.specs.Vec.Iter.{into_iter_items}
use Rattle.std.proofs.lemmas.List.Elements.{All-head, All-tail, All-same}
use Rattle.stream_history.specs.History.{IsPassOf}
use Rattle.live_asks.specs.declared.reader.AskReader.{AskReader}
use Rattle.live_asks.specs.Readers.{IsNewAskReader}
use Rattle.stream_threads.proofs.Numbering.{yields_more}
use Rattle.stream_threads.proofs.ReaderWorks.{all_new, all_done, passes_more, sources_more}
use Rattle.stream_threads.proofs.reader_work.reader_works.Goals as goal

pub loop-reader-preserved : goal.loop-reader-preserved
loop-reader-preserved g c =
    let was = c.loop-reader.invariant in
    let left = g.S.Source.left in
    let faults = g.S.Source.faults in
    let written = g.K.Sink.written in
    let failures = g.K.Sink.faults in
    let history = c.args.history.now in
    let step = c.in-Some.ensures.steps in
    let next = c.in-Some-next.ensures.cases in
    let pushed = c.push_reserved.ensures in
    let made = c.new_work.ensures in
    let one = c.new_work.result in
    let rest = into_iter_items c.next.new.self in
    let behind = into_iter_items c.next-in-loop-reader.new.self in
    let Fresh = IsNewAskReader left faults written failures in
    let fresh = All-same Fresh _ _ (sym step.0) was.fresh in
    let are = All-same (IsPassOf history) _ _ (sym next.0) was.are in
    let more = length-append c.loop-reader.yielded (c.in-Some.reader ∷ []) in
    let n : length (into_iter_items c.loop-reader.reader-iterator) ≡ length rest + 1 =
    simp step.0 (omega arith) in
    record {
      next = tt;
      finite = tt;
      whole = yields_more _ _ _ _ _ was.whole step.0;
      left_over = omega (arith, was.left_over, ap length step.0);
      given = passes_more _ _ one pushed.items _ behind _ _ was.given next.0 made.pass;
      passes = omega (arith, next.1, was.passes, n);
      long = omega (arith, ap length next.0, was.long, n);
      are = All-tail (IsPassOf history) _ behind are;
      fresh = All-tail Fresh _ rest fresh;
      room = omega (arith, was.room, n, pushed.len, pushed.capacity);
      new = all_new left faults written failures history _ _ one c.in-Some-next.pass
          c.in-Some.reader was.new pushed.items (All-head (IsPassOf history) _ behind are)
          (All-head Fresh _ rest fresh) made.pass made.reader made.replies;
      sources = sources_more _ _ one pushed.items _ c.in-Some.reader was.sources made.reader;
      many = omega (arith, was.many, more, pushed.len);
    }

pub returns-clause-passes : goal.returns-clause-passes
returns-clause-passes g c =
    let was = c.loop-reader.invariant in
    all_done _ _ _ was.given (omega (arith, was.long, was.left_over, c.in-None.ensures.steps.0))

pub returns-clause-sources : goal.returns-clause-sources
returns-clause-sources g c =
    let was = c.loop-reader.invariant in
    was.sources ∙ ap (map (λ (one : AskReader g.row.S.Denot g.row.K.Denot). one.reader.source))
    (all_done _ _ _ was.whole (omega (arith, was.left_over, c.in-None.ensures.steps.0)))
