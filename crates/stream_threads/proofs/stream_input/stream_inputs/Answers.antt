use Rattle.std.proofs.Common.{◌≡◌, ◌+◌, ◌++◌, length, ap, ◌∙◌, arith, refl}
use Rattle.std.specs.Vec.Iter.{into_iter_items}
use Rattle.stream_threads.specs.declared.stream_input.StreamInput.{StreamInput}
use Rattle.stream_threads.proofs.Inputs.{next_sinks, next_sink, sinks_more, sinks_done, all_sinks}
use Rattle.stream_threads.proofs.Inputs.{mapped_more}
use Rattle.stream_threads.proofs.Numbering.{yields_more}
use Rattle.stream_threads.proofs.ReaderWorks.{all_done}
use Rattle.stream_threads.proofs.stream_input.stream_inputs.Goals as goal

pub loop-reader-preserved : goal.loop-reader-preserved
loop-reader-preserved g c =
    let was = c.loop-reader.invariant in
    let step = c.in-Some.ensures.steps in
    let pushed = c.push_reserved.ensures in
    let rest = into_iter_items c.next.new.self in
    let found = c.next-faults.result in
    let n : length (into_iter_items c.loop-reader.reader-iterator) ≡ length rest + 1 =
    simp step.0 (omega arith) in
    record {
      next = tt;
      finite = tt;
      whole = yields_more _ _ _ _ _ was.whole step.0;
      left_over = omega (arith, was.left_over, ap length step.0);
      room = omega (arith, was.room, n, pushed.len, pushed.capacity);
      readers_are = mapped_more (λ (one : StreamInput g.row.S.Denot g.row.K.Denot). one.reader) _ _
          (record { reader = c.in-Some.reader; faults = found }) _ pushed.items was.readers_are;
      sinks_are = ap (λ l. l ++ next_sinks (length rest) (into_iter_items c.next-faults.new.self))
          (mapped_more (λ (one : StreamInput g.row.S.Denot g.row.K.Denot). one.faults) _ _
          (record { reader = c.in-Some.reader; faults = found }) _ pushed.items refl)
          ∙ sinks_more _ _ found (length rest) _ _ _ was.sinks_are n
          (next_sink (length rest) found _ _ _ _ (omega (arith, c.loop-reader.sinks.rest.ok.0))
          (omega (arith, c.next-faults.new.self.rest.ok.0)) c.next-faults.ensures.cases);
    }

pub returns-clause-readers : goal.returns-clause-readers
returns-clause-readers g c =
    let was = c.loop-reader.invariant in
    was.readers_are
    ∙ all_done _ _ _ was.whole (omega (arith, was.left_over, c.in-None.ensures.steps.0))

pub returns-clause-faults : goal.returns-clause-faults
returns-clause-faults g c =
    let was = c.loop-reader.invariant in
    sinks_done _ _ _ _ was.sinks_are (omega (arith, was.left_over, c.in-None.ensures.steps.0))
    ∙ all_sinks _ _ c.requires.many
