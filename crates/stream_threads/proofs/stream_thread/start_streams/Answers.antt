use Rattle.std.proofs.Common.{◌≡◌, ℕ, ◌+◌, [], ◌∷◌, length, sym, ap, subst, ◌∙◌, arith}
use Rattle.std.proofs.Common.{length-append}
use Rattle.std.specs.Vec.Iter.{into_iter_items}
use Rattle.std.proofs.lemmas.List.Elements.{All-head, All-tail, All-same}
use Rattle.stream_threads.specs.Inputs.{IsNewInput}
use Rattle.stream_threads.specs.Streams.{IsNewPass}
use Rattle.stream_threads.specs.Started.{IsStarted, AreStarted, new_pass, new_passes}
use Rattle.stream_threads.proofs.Numbering.{numbered_push, yields_more, next_new, new_length}
use Rattle.stream_threads.proofs.Numbering.{new_is_open}
use Rattle.stream_threads.proofs.ReaderWorks.{all_done}
use Rattle.stream_threads.proofs.stream_thread.start_streams.Goals as goal

pub loop-input-init : goal.loop-input-init
loop-input-init g c =
    let history = c.args.shared.now.history.now in
    let n = new_length history 1 (history.terms.streams + history.readers) in
    let items = c.requires.passes in
    let gives = c.into_iter-input-iterator.ensures.into_iter_gives in
    let many : length (into_iter_items c.into_iter-input-iterator.result) ≡ history.terms.streams =
    ap length gives.0 ∙ c.requires.streams in
    record {
      next = tt;
      finite = tt;
      whole = gives.0;
      left_over = omega (arith, gives.1, ap length gives.0);
      given = items ∙ ap (λ k. new_passes history 1 (k + history.readers)) (sym many);
      passes = omega (arith, many, ap length items ∙ n, c.args.passes.now.rest.ok.0);
      room = omega (arith, many, c.requires.room, ap length c.requires.none, ap length gives.0);
      are = subst (AreStarted g.S.Source.left g.S.Source.faults g.K.Sink.written g.K.Sink.faults history 1 [])
          (sym c.requires.none) tt;
      many = omega (arith, ap length c.requires.none);
      streams = omega (arith, many);
      fresh = All-same
          (IsNewInput history.terms.cap g.S.Source.left g.S.Source.faults g.K.Sink.written
          g.K.Sink.faults) _ _ gives.0
          c.requires.fresh;
    }

pub start_stream-requires-clause-pass : goal.start_stream-requires-clause-pass
start_stream-requires-clause-pass g c κs within =
    let was = c.loop-input.invariant in
    let history = c.args.shared.now.history.now in
    let step = c.in-Some.ensures.steps in
    let from : ℕ = 1 + length c.loop-input.yielded in
    let rest = into_iter_items c.next.new.self in
    let n : length (into_iter_items c.loop-input.input-iterator) ≡ length rest + 1 =
    simp step.0 (omega arith) in
    let new = next_new history from _ (length rest + history.readers) _ _ _ was.given
    c.in-Some-next.ensures.cases.0 (omega arith) in
    subst (IsNewPass history) (sym new.0)
    (new_is_open history from (omega arith, omega (arith, was.streams, n)))

pub start_stream-requires-clause-input : goal.start_stream-requires-clause-input
start_stream-requires-clause-input g c κs within =
    let was = c.loop-input.invariant in
    let step = c.in-Some.ensures.steps in
    let cap = c.args.shared.now.history.now.terms.cap in
    let Fresh = IsNewInput cap g.S.Source.left g.S.Source.faults g.K.Sink.written g.K.Sink.faults in
    All-head Fresh c.in-Some.input (into_iter_items c.next.new.self)
    (All-same Fresh _ _ (sym step.0) was.fresh)

pub loop-input-preserved : goal.loop-input-preserved
loop-input-preserved g c =
    let was = c.loop-input.invariant in
    let left = g.S.Source.left in
    let faults = g.S.Source.faults in
    let written = g.K.Sink.written in
    let failures = g.K.Sink.faults in
    let history = c.args.shared.now.history.now in
    let step = c.in-Some.ensures.steps in
    let pushed = c.push_reserved.ensures in
    let input = c.in-Some.input in
    let Fresh = IsNewInput history.terms.cap left faults written failures in
    let from : ℕ = 1 + length c.loop-input.yielded in
    let more = length-append c.loop-input.yielded (input ∷ []) in
    let rest = into_iter_items c.next.new.self in
    let n : length (into_iter_items c.loop-input.input-iterator) ≡ length rest + 1 =
    simp step.0 (omega arith) in
    let new = next_new history from _ (length rest + history.readers) _ _ _ was.given
    c.in-Some-next.ensures.cases.0 (omega arith) in
    record {
      next = tt;
      finite = tt;
      whole = yields_more _ _ _ _ _ was.whole step.0;
      left_over = omega arith;
      given = new.1 ∙ ap (λ k. new_passes history k (length rest + history.readers))
          (omega (arith, more));
      passes = omega (arith, c.in-Some-next.ensures.cases.1);
      room = omega arith;
      are = subst (AreStarted left faults written failures history 1 _) (sym pushed.items)
          (numbered_push
          (λ number each one. IsStarted left faults written failures history each (new_pass history number) one)
          1 _ _ _ _ was.are
          (subst (λ pass. IsStarted left faults written failures history input pass c.start_stream.result) new.0
          c.start_stream.ensures));
      many = omega (arith, was.many, more);
      streams = omega (arith, was.streams, n, more);
      fresh = All-tail Fresh input rest (All-same Fresh _ _ (sym step.0) was.fresh);
    }

pub returns-clause-passes : goal.returns-clause-passes
returns-clause-passes g c =
    let was = c.loop-input.invariant in
    let history = c.args.shared.now.history.now in
    let left : ℕ = length (into_iter_items c.loop-input.input-iterator) in
    let none : left ≡ 0 = omega (arith, was.left_over, c.in-None.ensures.steps.0) in
    let readers : left + history.readers ≡ history.readers = omega (arith, none) in
    let from : 1 + length c.loop-input.yielded ≡ 1 + history.terms.streams =
    omega (arith, was.streams, none) in
    was.given
    ∙ (ap (new_passes history (1 + length c.loop-input.yielded)) readers
    ∙ ap (λ n. new_passes history n history.readers) from)

pub returns-clause-started : goal.returns-clause-started
returns-clause-started g c =
    let was = c.loop-input.invariant in
    let all = all_done _ _ _ was.whole (omega (arith, was.left_over, c.in-None.ensures.steps.0)) in
    subst (λ inputs. AreStarted g.S.Source.left g.S.Source.faults g.K.Sink.written g.K.Sink.faults
    c.args.shared.now.history.now 1 inputs c.loop-input.started.items) all was.are
