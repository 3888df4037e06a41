use Rattle.std.proofs.Common.{◌≡◌, ◌-◌}
use Rattle.std.specs.Prelude.{is_some}
use Rattle.stream_history.specs.History.{IsOpenPass}
use Rattle.stream_tuples.specs.History.{policy_of_sink}
use Rattle.stream_tuples.specs.Progress.{IsStreamReader, passed}
use Rattle.stream_threads.specs.Taking.{AreTaken, failed_on}
use Rattle.stream_threads.proofs.stream_worker.take_all.Given as goal

-- the items that were read are taken, and nothing failed
abbrev pub invariant-loop-end : goal.invariant-loop-end
invariant-loop-end g l = record {
  is_open : IsOpenPass l.shared.history.now l.pass;
  same : l.pass.number ≡ l.fn.pass.number;
  there : is_some l.input.faults ≡ is_some l.fn.input.faults;
  sound : IsStreamReader g.S.Source.left l.input.reader;
  taken : AreTaken (policy_of_sink l.fn.input.faults) g.S.Source.left g.K.Sink.written
      (g.S.Source.left l.fn.input.reader.source) l.input l.pass.mine;
  unread : g.S.Source.faults l.input.reader.source ≡ g.S.Source.faults l.fn.input.reader.source;
  unwritten : failed_on g.K.Sink.faults l.input.faults
      ≡ failed_on g.K.Sink.faults l.fn.input.faults;
  limits : l.input.reader.byte_limit ≡ l.fn.input.reader.byte_limit;
}

-- how many bytes may still be given
abbrev pub decreases-loop-end : goal.decreases-loop-end
decreases-loop-end g l = l.input.reader.byte_limit - passed l.input.reader
