use Rattle.std.proofs.Common.{◌≡◌, ◌+◌, [], ◌∷◌, length, sym, subst, arith, length-append}
use Rattle.std.specs.Vec.Iter.{into_iter_items}
use Rattle.stream_threads.specs.Started.{Gives, Give}
use Rattle.stream_threads.proofs.Numbering.{numbered_push, yields_more}
use Rattle.stream_threads.proofs.stream_thread.join_streams.Goals as goal

pub loop-one-preserved : goal.loop-one-preserved
loop-one-preserved g c =
    let was = c.loop-one.invariant in
    let left = g.S.Source.left in
    let faults = g.S.Source.faults in
    let written = g.K.Sink.written in
    let failures = g.K.Sink.faults in
    let step = c.in-Some.ensures.steps in
    let n : length (into_iter_items c.loop-one.one-iterator)
    ≡ length (into_iter_items c.next.new.self) + 1 = simp step.0 (omega arith) in
    record {
      next = tt;
      finite = tt;
      whole = yields_more _ _ _ _ _ was.whole step.0;
      left_over = omega arith;
      room = omega arith;
      give = subst (Give left faults written failures _) (sym c.push_reserved.ensures.items)
          (numbered_push (λ number one done. Gives left faults written failures one done) 0 _ _ _ _ was.give
          c.join_stream.ensures);
      many = omega (arith, was.many, length-append c.loop-one.yielded (c.in-Some.one ∷ []));
    }
