-- What the worker of a session does.
use Rattle.std.specs.Prelude.{◌≡◌, ◌≢◌, ℕ, ◌≤◌, ◌⊎◌, true, false, List, [], ◌∷◌, ◌++◌, length, map}
use Rattle.std.specs.Prelude.{Some}
use Rattle.turn_lock.specs.Lines.{StartsWith}
use Rattle.turn_lock.specs.Passes.{PassValue}
use Rattle.history_model.specs.declared.line.Why.{Why}
use Rattle.history_model.specs.declared.line.Line.{Line}
use Rattle.history_model.specs.Lines.{entries, published}
use Rattle.history_model.specs.World.{Terms}
use Rattle.stream_history.specs.declared.calls.Looked.{Looked}
use Rattle.stream_history.specs.History.{HistoryValue, IsPassOf, IsOver}
use Rattle.ask_text.specs.declared.ask.Ask.{Ask}
use Rattle.ask_text.specs.Answered.{AnsweredValue}
use Rattle.ask_text.specs.Ranges.{ended_at}
use Rattle.ask_text.specs.Reply.{IsReply}
use Rattle.stream_threads.specs.declared.session_work.SessionWork.{SessionWork}

-- a look found that no further position is to come: the history is shut, or all streams have ended
-- and as many entries are published as there are
abbrev pub FindsOver : Looked → Type 0
FindsOver looked =
    ((why : Why) × (looked.shut ≡ Some why))
    ⊎ ((looked.all_ended ≡ true) × (looked.view.value.position ≡ looked.length))

-- at the end of some beginning of the lines this position was published, and no further one was to
-- come
pub record HadEnded (streams : ℕ) (lines : List Line) (position : ℕ) : Type 0 where
  pub front : List Line
  pub begins : StartsWith lines front
  pub at : position ≡ published front
  pub over : IsOver streams front position

-- the text is the reply to the ask over the entries up to its position; it tells the ask as ended
-- exactly where that waits for a later position, and only where none was to come
pub record HasReply (history : HistoryValue) (lines : List Line) (answered : AnsweredValue)
    : Type 0 where
  pub within : answered.position ≤ length (entries lines)
  pub text : IsReply history.terms.queries (entries lines) answered.position answered.ask
      (ended_at answered.ask answered.position) answered.text
  pub over : ended_at answered.ask answered.position ≡ true →
      HadEnded history.terms.streams lines answered.position

-- each has its reply
abbrev pub AreReplies : HistoryValue → List Line → List AnsweredValue → Type 0
AreReplies history lines [] = Unit {0}
AreReplies history lines (one ∷ more) = HasReply history lines one × AreReplies history lines more

-- no position is below the one before it, the first isn't below this one, and none is above that
-- one
abbrev pub RisesTo : ℕ → List AnsweredValue → ℕ → Type 0
RisesTo from [] to = from ≤ to
RisesTo from (one ∷ more) to = (from ≤ one.position) × RisesTo one.position more to

-- the ask was answered by a look at what the pass has seen, behind these answers
pub record AnswersOne (history : HistoryValue) (ask : Ask) (before : List AnsweredValue)
    (work : SessionWork) : Type 0 where
  pub answered : AnsweredValue
  pub ask_is : answered.ask ≡ ask
  pub reply : HasReply history work.pass.seen answered
  pub at : answered.position ≡ published work.pass.seen
  pub kept : work.answers.items ≡ before ++ answered ∷ []

-- the worker was given a pass and asks, and gives back the pass and the answers to the first asks,
-- in their order: to all of them if memory didn't run out, and not to all if it did. It gives back
-- each reply of which the gate was told, and no other
pub record HasReplied (history : HistoryValue) (given : PassValue Line Terms) (asks : List Ask)
    (work : SessionWork) : Type 0 where
  pub is : IsPassOf history work.pass
  pub number : work.pass.number ≡ given.number
  pub asked : StartsWith asks (map (λ one. one.ask) work.answers.items)
  pub all : work.memory ≡ false → map (λ one. one.ask) work.answers.items ≡ asks
  pub short : work.memory ≡ true → map (λ one. one.ask) work.answers.items ≢ asks
  pub replies : AreReplies history work.pass.seen work.answers.items
  pub rises : RisesTo 0 work.answers.items (published work.pass.seen)
  pub told : work.told ≡ map (λ one. one.position) work.answers.items
