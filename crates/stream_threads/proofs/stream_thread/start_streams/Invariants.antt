use Rattle.std.proofs.Common.{◌≡◌, ◌+◌, ◌≤◌, ◌++◌, length}
use Rattle.std.specs.Vec.{vec_len, vec_items, vec_capacity}
use Rattle.std.specs.Vec.Iter.{into_iter_items, into_iter_len}
use Rattle.std.specs.List.{All}
use Rattle.stream_threads.specs.Inputs.{IsNewInput}
use Rattle.stream_threads.specs.Started.{new_passes, AreStarted}
use Rattle.stream_threads.proofs.stream_thread.start_streams.Given as goal

-- the workers of the readers so far are started, and there is a new pass for each further one
abbrev pub invariant-loop-input : goal.invariant-loop-input
invariant-loop-input g l = record {
  next : (goal.iterator-loop-input g).can_next l.input-iterator;
  finite : (goal.iterator-loop-input g).is_finite l.input-iterator;
  whole : l.yielded ++ into_iter_items l.input-iterator ≡ vec_items l.fn.inputs;
  left_over : into_iter_len l.input-iterator ≡ length (into_iter_items l.input-iterator);
  given : into_iter_items l.passes ≡ new_passes l.shared.history.now (1 + length l.yielded)
      (length (into_iter_items l.input-iterator) + l.shared.history.now.readers);
  passes : into_iter_len l.passes
      ≡ length (into_iter_items l.input-iterator) + l.shared.history.now.readers;
  room : vec_len l.started + length (into_iter_items l.input-iterator)
      ≤ vec_capacity l.started;
  are : AreStarted g.S.Source.left g.S.Source.faults g.K.Sink.written g.K.Sink.faults l.shared.history.now 1 l.yielded
      (vec_items l.started);
  many : vec_len l.started ≡ length l.yielded;
  streams : length l.yielded + length (into_iter_items l.input-iterator)
      ≡ l.shared.history.now.terms.streams;
  fresh : All (IsNewInput l.shared.history.now.terms.cap g.S.Source.left g.S.Source.faults
      g.K.Sink.written g.K.Sink.faults)
      (into_iter_items l.input-iterator);
}
