-- What the engine of a run does with the entries of the history. Only private contracts cite this
-- file.
use Rattle.std.specs.Prelude.{◌≡◌, ℕ, ◌<◌, ◌≤◌, ◌^◌, true, false, List, [], length}
use Rattle.std.specs.Prelude.{Option, Some, None}
use Rattle.std.specs.Global.{Vec}
use Rattle.rpq_base.specs.declared.data.Entry.{Entry}
use Rattle.rpq_model.specs.Query.{Query}
use Rattle.entry_steps.specs.Evaluator.{EvaluatorValue, StandsAfter, queries_of}
use Rattle.entry_steps.specs.Steps.{OptionsValue, CanRun}
use Rattle.history_model.specs.declared.line.Why.{Why}
use Rattle.history_model.specs.declared.line.Line.{Line}
use Rattle.history_model.specs.Lines.{entries, published, AllEnded, IsShutFor}
use Rattle.history_model.specs.World.{Terms}
use Rattle.standing.specs.Circles.{CircleValue}
use Rattle.stream_history.specs.History.{HistoryValue, IsPassOf, IsFeedingPass}
use Rattle.turn_lock.specs.Passes.{PassValue}
use Rattle.rpq_threads.specs.Runs.{WritesText}
use Rattle.rpq_threads.specs.Told.{TellsObjects}
use Rattle.rpq_threads.specs.Window.{IsLeftOf}

-- the pass is the engine's, and has seen and added no line; and the evaluator, which has the
-- queries of the history, with which a run can be, has answered no entry. If edges may be taken
-- backwards, nobody reads along, and no paths are told
pub record IsFed (history : HistoryValue) (evaluator : EvaluatorValue) (pass : PassValue Line Terms)
    : Type 0 where
  pub feeds : IsFeedingPass history pass
  pub none_seen : pass.seen ≡ []
  pub none_added : pass.mine ≡ []
  pub queries : queries_of evaluator ≡ history.terms.queries
  pub accepted : CanRun evaluator.options history.terms.queries
  pub unread : evaluator.options.two_way ≡ true → history.readers ≡ 0
  pub forwards : evaluator.options.paths ≡ true → evaluator.options.two_way ≡ false
  pub few : history.terms.cap ≤ 2 ^ 61
  pub stands : StandsAfter evaluator []

-- these are the queries of the history, and none of the objects has left
pub record IsAtStart (history : HistoryValue) (queries : List Query) (evaluator : EvaluatorValue)
    (pass : PassValue Line Terms) (circle : CircleValue) : Type 0 where
  pub fed : IsFed history evaluator pass
  pub same : queries ≡ history.terms.queries
  pub fresh : circle.left ≡ []

-- the engine's loop has ended, without a shut or with one for this reason: the text of all entries
-- was written, or a prefix of it; a write failed exactly where that is the reason; the objects were
-- told of the events of the blocks that were written whole; and this is left for a later run
pub record HasFed {K : Type 0} (written : K → Option (List ℕ)) (faults : K → ℕ)
    (options : OptionsValue) (history : HistoryValue) (before after : K)
    (circle_before circle_after : CircleValue) (pass : PassValue Line Terms) (why : Option Why)
    (window : Option (Vec Entry)) : Type 0 where
  pub is : IsPassOf history pass
  pub number : pass.number ≡ 0
  pub ended : why ≡ None → AllEnded history.terms.streams pass.seen
  pub told : why ≡ None → 0 < history.readers → published pass.mine ≡ length (entries pass.seen)
  pub shut : (other : Why) → IsShutFor pass.mine other → why ≡ Some other
  pub seen_shut : (other : Why) → why ≡ Some other → IsShutFor pass.seen other
  pub left : IsLeftOf history.terms (entries pass.seen) why window
  pub text : WritesText written faults options history.terms.queries (entries pass.seen)
      before after why
  pub objects : TellsObjects options history.terms.queries (entries pass.seen) (written before)
      (written after) circle_before.members why circle_after
