use Rattle.std.proofs.Common.{◌≡◌, ◌+◌, ◌-◌, ◌≤◌, ◌++◌, length, map, All}
use Rattle.std.specs.Vec.{vec_len, vec_items, vec_capacity}
use Rattle.std.specs.Vec.Iter.{into_iter_items, into_iter_len}
use Rattle.ask_text.specs.Ranges.{IsInRange}
use Rattle.stream_threads.specs.Started.{new_passes}
use Rattle.stream_threads.specs.Readers.{AreNewWorks}
use Rattle.stream_threads.proofs.session_work.session_works.Given as goal

-- the sessions so far have their passes, and there is a new pass for each further one
abbrev pub invariant-loop-session : goal.invariant-loop-session
invariant-loop-session l = record {
  next : goal.iterator-loop-session.can_next l.session-iterator;
  finite : goal.iterator-loop-session.is_finite l.session-iterator;
  whole : l.yielded ++ into_iter_items l.session-iterator ≡ vec_items l.fn.sessions;
  left_over : into_iter_len l.session-iterator ≡ length (into_iter_items l.session-iterator);
  given : into_iter_items l.passes
      ≡ new_passes l.history (1 + l.history.terms.streams + length l.yielded)
      (length (into_iter_items l.session-iterator)
      + (l.history.readers - length (vec_items l.fn.sessions)));
  passes : into_iter_len l.passes ≡ length (into_iter_items l.session-iterator)
      + (l.history.readers - length (vec_items l.fn.sessions));
  room : vec_len l.works + length (into_iter_items l.session-iterator) ≤ vec_capacity l.works;
  new : AreNewWorks l.history (vec_items l.works);
  asks : map (λ work. work.asks.items) (vec_items l.works) ≡ l.yielded;
  many : vec_len l.works ≡ length l.yielded;
  count : l.number ≡ length l.yielded;
  few : length l.yielded + length (into_iter_items l.session-iterator) ≤ 64;
  ranges : All (All (IsInRange (length l.history.terms.queries)))
      (into_iter_items l.session-iterator);
}
