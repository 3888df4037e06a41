use Rattle.std.proofs.Common.{refl, sym, subst, ◌∙◌}
use Rattle.stream_tuples.specs.declared.faults.FaultPolicy.{FaultPolicy}
use Rattle.stream_threads.specs.Taking.{AreTaken}
use Rattle.stream_threads.proofs.Taken.{none_taken, same_policy}
use Rattle.stream_threads.proofs.stream_worker.take_all.Goals as goal

pub loop-end-init : goal.loop-end-init
loop-end-init g c =
    let input = c.args.input.now in
    let pass = c.args.pass.now in
    record {
      is_open = c.requires.pass.is_open;
      same = refl;
      there = refl;
      sound = c.requires.input.0.sound;
      taken = none_taken c.args.shared.now.history.now.terms.cap g.S.Source.left g.S.Source.faults
          g.K.Sink.written g.K.Sink.faults input pass.mine c.requires.input c.requires.pass.none;
      unread = refl;
      unwritten = refl;
      limits = refl;
    }

pub loop-end-preserved : goal.loop-end-preserved
loop-end-preserved g c =
    let was = c.loop-end.invariant in
    let did = c.in_default.ensures in
    let left = g.S.Source.left in
    let written = g.K.Sink.written in
    let input = c.args.input.now in
    let file = left input.reader.source in
    let same = same_policy c.loop-end.input.faults input.faults was.there in
    record {
      is_open = did.open;
      same = did.number ∙ was.same;
      there = did.there ∙ was.there;
      sound = did.ok.sound;
      taken = subst (λ (p : FaultPolicy). AreTaken p left written file c.take_one.new.input
          c.take_one.new.pass.mine) same
          (did.ok.taken file (subst (λ (p : FaultPolicy). AreTaken p left written file
          c.loop-end.input c.loop-end.pass.mine) (sym same) was.taken));
      unread = did.read.quiet (λ no. no) ∙ was.unread;
      unwritten = did.write.quiet (λ no. no) ∙ was.unwritten;
      limits = did.limits ∙ was.limits;
    }
