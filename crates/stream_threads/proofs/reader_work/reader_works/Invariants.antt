use Rattle.std.proofs.Common.{◌≡◌, ◌+◌, ◌≤◌, ◌++◌, length, map}
use Rattle.std.specs.Vec.{vec_len, vec_items, vec_capacity}
use Rattle.std.specs.Vec.Iter.{into_iter_items, into_iter_len}
use Rattle.std.specs.List.{All}
use Rattle.stream_history.specs.History.{IsPassOf}
use Rattle.live_asks.specs.Readers.{IsNewAskReader}
use Rattle.stream_threads.specs.Live.{AreNewReaderWorks}
use Rattle.stream_threads.proofs.reader_work.reader_works.Given as goal

-- the readers so far have their passes, and there is a pass for each further one
abbrev pub invariant-loop-reader : goal.invariant-loop-reader
invariant-loop-reader g l = record {
  next : (goal.iterator-loop-reader g).can_next l.reader-iterator;
  finite : (goal.iterator-loop-reader g).is_finite l.reader-iterator;
  whole : l.yielded ++ into_iter_items l.reader-iterator ≡ vec_items l.fn.readers;
  left_over : into_iter_len l.reader-iterator ≡ length (into_iter_items l.reader-iterator);
  given : map (λ work. work.pass) (vec_items l.works) ++ into_iter_items l.passes
      ≡ into_iter_items l.fn.passes;
  passes : into_iter_len l.passes ≡ length (into_iter_items l.reader-iterator);
  long : length (into_iter_items l.passes) ≡ length (into_iter_items l.reader-iterator);
  are : All (IsPassOf l.history) (into_iter_items l.passes);
  fresh : All (IsNewAskReader g.S.Source.left g.S.Source.faults g.K.Sink.written g.K.Sink.faults)
      (into_iter_items l.reader-iterator);
  room : vec_len l.works + length (into_iter_items l.reader-iterator) ≤ vec_capacity l.works;
  new : AreNewReaderWorks g.S.Source.left g.S.Source.faults g.K.Sink.written g.K.Sink.faults
      l.history (vec_items l.works);
  sources : map (λ work. work.reader.source) (vec_items l.works)
      ≡ map (λ one. one.reader.source) l.yielded;
  many : vec_len l.works ≡ length l.yielded;
}
