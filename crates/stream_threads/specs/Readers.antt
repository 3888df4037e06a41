-- Workers of sessions.
use Rattle.std.specs.Prelude.{◌≡◌, ℕ, ◌+◌, ◌<◌, false, List, [], length, All, slice_index_or}
use Rattle.stream_history.specs.History.{HistoryValue}
use Rattle.ask_text.specs.declared.ask.Ask.{Ask}
use Rattle.ask_text.specs.Ranges.{IsInRange}
use Rattle.stream_threads.specs.declared.session_work.SessionWork.{SessionWork}
use Rattle.stream_threads.specs.Numbered.{AllNumbered}
use Rattle.stream_threads.specs.Sessions.{HasReplied}
use Rattle.stream_threads.specs.Started.{new_pass}

-- a session of which nothing was answered yet: its pass is the reader's of its number, which counts
-- from 1, and its asks are about the queries of the history
pub record IsNewWork (history : HistoryValue) (work : SessionWork) : Type 0 where
  pub pass : work.pass ≡ new_pass history (history.terms.streams + work.number)
  pub asks : All (IsInRange (length history.terms.queries)) work.asks.items
  pub none : work.answers.items ≡ []
  pub untold : work.told ≡ []
  pub ample : work.memory ≡ false

-- each has the number of its place
abbrev pub AreNewWorks : HistoryValue → List SessionWork → Type 0
AreNewWorks history works =
    (i : ℕ) (d : SessionWork) → i < length works →
    IsNewWork history (slice_index_or works i d) × ((slice_index_or works i d).number ≡ i + 1)

-- the workers of these sessions, which had new passes from this number on, gave this
abbrev pub HaveReplied : HistoryValue → ℕ → List (List Ask) → List SessionWork → Type 0
HaveReplied history from sessions works =
    AllNumbered (λ number session work. HasReplied history (new_pass history number) session work)
    from sessions works
