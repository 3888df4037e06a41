use Rattle.std.proofs.Common.{◌≡◌, ◌+◌, ◌≤◌, ◌++◌, length, map}
use Rattle.std.specs.Vec.{vec_len, vec_items, vec_capacity}
use Rattle.std.specs.Vec.Iter.{into_iter_items, into_iter_len}
use Rattle.stream_threads.proofs.Inputs.{next_sinks}
use Rattle.stream_threads.proofs.stream_input.stream_inputs.Given as goal

-- the readers so far have their sinks, and each further one gets the next of them, if there is one
abbrev pub invariant-loop-reader : goal.invariant-loop-reader
invariant-loop-reader g l = record {
  next : (goal.iterator-loop-reader g).can_next l.reader-iterator;
  finite : (goal.iterator-loop-reader g).is_finite l.reader-iterator;
  whole : l.yielded ++ into_iter_items l.reader-iterator ≡ vec_items l.fn.readers;
  left_over : into_iter_len l.reader-iterator ≡ length (into_iter_items l.reader-iterator);
  room : vec_len l.inputs + length (into_iter_items l.reader-iterator) ≤ vec_capacity l.inputs;
  readers_are : map (λ one. one.reader) (vec_items l.inputs) ≡ l.yielded;
  sinks_are : map (λ one. one.faults) (vec_items l.inputs)
      ++ next_sinks (length (into_iter_items l.reader-iterator)) (into_iter_items l.sinks)
      ≡ next_sinks (length (vec_items l.fn.readers)) (vec_items l.fn.faults);
}
