use Rattle.std.proofs.Common.{◌≡◌, ◌++◌, false, length, map}
use Rattle.std.specs.Vec.{vec_items}
use Rattle.std.specs.Vec.Iter.{into_iter_items, into_iter_len}
use Rattle.std.specs.List.{All}
use Rattle.history_model.specs.Lines.{published}
use Rattle.stream_history.specs.History.{IsPassOf}
use Rattle.ask_text.specs.Ranges.{IsInRange}
use Rattle.stream_threads.specs.Sessions.{AreReplies, RisesTo}
use Rattle.stream_threads.proofs.session_worker.serve_session.Given as goal

-- the asks so far are answered, at positions that rise, and the gate was told of each
abbrev pub invariant-loop-ask : goal.invariant-loop-ask
invariant-loop-ask g l = record {
  next : (goal.iterator-loop-ask g).can_next l.ask-iterator;
  finite : (goal.iterator-loop-ask g).is_finite l.ask-iterator;
  left_over : into_iter_len l.ask-iterator ≡ length (into_iter_items l.ask-iterator);
  asked : map (λ a. a.ask) (vec_items l.work.answers) ++ into_iter_items l.ask-iterator
      ≡ vec_items l.fn.work.asks;
  ranges : All (IsInRange (length l.shared.queries.now)) (into_iter_items l.ask-iterator);
  is : IsPassOf l.shared.history.now l.work.pass;
  same : l.work.pass.number ≡ l.fn.work.pass.number;
  replies : AreReplies l.shared.history.now l.work.pass.seen (vec_items l.work.answers);
  rises : RisesTo 0 (vec_items l.work.answers) (published l.work.pass.seen);
  told : l.work.told ≡ map (λ a. a.position) (vec_items l.work.answers);
  ample : l.work.memory ≡ false;
}
