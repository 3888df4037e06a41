use Rattle.std.proofs.Common.{◌≡◌, map}
use Rattle.std.specs.Global.{Vec}
use Rattle.ask_text.specs.Answered.{AnsweredValue}
use Rattle.rpq_run.specs.Replies.{texts_of}
use Rattle.rpq_run.proofs.Replying.{HasReplied}
use Rattle.rpq_run.proofs.replies.write_sessions.Given as goal

-- the sessions so far are written, and no write failed
abbrev pub invariant-loop-place : goal.invariant-loop-place
invariant-loop-place g l = record {
  written : HasReplied (texts_of (map (λ (own : Vec AnsweredValue). own.items) l.sessions)) l.place
      (g.K.Sink.written l.fn.sink) (g.K.Sink.written l.sink);
  quiet : g.K.Sink.faults l.sink ≡ g.K.Sink.faults l.fn.sink;
}
