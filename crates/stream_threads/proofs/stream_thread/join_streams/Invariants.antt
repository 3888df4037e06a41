use Rattle.std.proofs.Common.{◌≡◌, ◌+◌, ◌≤◌, ◌++◌, length}
use Rattle.std.specs.Vec.{vec_len, vec_items, vec_capacity}
use Rattle.std.specs.Vec.Iter.{into_iter_items, into_iter_len}
use Rattle.stream_threads.specs.Started.{Give}
use Rattle.stream_threads.proofs.stream_thread.join_streams.Given as goal

-- what the workers so far give is in the list
abbrev pub invariant-loop-one : goal.invariant-loop-one
invariant-loop-one g l = record {
  next : (goal.iterator-loop-one g).can_next l.one-iterator;
  finite : (goal.iterator-loop-one g).is_finite l.one-iterator;
  whole : l.yielded ++ into_iter_items l.one-iterator ≡ vec_items l.fn.started;
  left_over : into_iter_len l.one-iterator ≡ length (into_iter_items l.one-iterator);
  room : vec_len l.streamed + length (into_iter_items l.one-iterator) ≤ vec_capacity l.streamed;
  give : Give g.S.Source.left g.S.Source.faults g.K.Sink.written g.K.Sink.faults l.yielded (vec_items l.streamed);
  many : vec_len l.streamed ≡ length l.yielded;
}
