-- What the worker of a reader does that asks beside the run.
use Rattle.std.specs.Prelude.{◌≡◌, ℕ, List, length, map, All, Option, IfSome}
use Rattle.rpq_io.specs.Counts.{CountsFault}
use Rattle.turn_lock.specs.Passes.{PassValue}
use Rattle.history_model.specs.declared.line.Why.{Why}
use Rattle.history_model.specs.declared.line.Line.{Line}
use Rattle.history_model.specs.Lines.{published, IsShutFor}
use Rattle.history_model.specs.World.{Terms}
use Rattle.stream_history.specs.History.{HistoryValue, IsPassOf}
use Rattle.live_asks.specs.declared.ends.ReaderEnd.TheVariants.{Read, Write, Closed}
use Rattle.live_asks.specs.Answers.{LiveAnswer, item_answered, answers_told}
use Rattle.live_asks.specs.Ends.{AreItemsOfEnd, HasText}
use Rattle.live_asks.specs.Readers.{IsNewAskReader}
use Rattle.stream_threads.specs.declared.reader_work.ReaderWork.{ReaderWork}
use Rattle.stream_threads.specs.Numbered.{AllNumbered}
use Rattle.stream_threads.specs.Sessions.{AreReplies, RisesTo}
use Rattle.stream_threads.specs.Started.{new_pass, new_passes}

-- a reader that is still to be served, with a pass of the history
pub record IsNewReaderWork {S K : Type 0} (left : S → Option (List ℕ)) (faults : S → ℕ)
    (written : K → Option (List ℕ)) (failures : K → ℕ) (history : HistoryValue)
    (work : ReaderWork S K) : Type 0 where
  pub is : IsPassOf history work.pass
  pub new : IsNewAskReader left faults written failures
      (record { reader = work.reader; replies = work.replies })

-- all of them are
abbrev pub AreNewReaderWorks : {S K : Type 0} → (S → Option (List ℕ)) → (S → ℕ) →
    (K → Option (List ℕ)) → (K → ℕ) → HistoryValue → List (ReaderWork S K) → Type 0
AreNewReaderWorks left faults written failures history works =
    All (IsNewReaderWork left faults written failures history) works

-- they have new passes from this number on, in their order
abbrev pub HaveNewPasses : {S K : Type 0} → HistoryValue → ℕ → List (ReaderWork S K) → Type 0
HaveNewPasses history from works =
    map (λ work. work.pass) works ≡ new_passes history from (length works)

-- the worker was given the lines of a source, a sink on which nothing was written and a pass, and
-- gives them back so: there are answers to the items of the source's bytes by the end; each ask
-- among them has its reply by what the history has at its position, which never falls; their text
-- stands on the sink; and the end has its cause
pub record HasServed {S K : Type 0} (left : S → Option (List ℕ)) (faults : S → ℕ)
    (written : K → Option (List ℕ)) (failures : K → ℕ) (history : HistoryValue) (before : S)
    (given : PassValue Line Terms) (served : ReaderWork S K) : Type 0 where
  pub is : IsPassOf history served.pass
  pub number : served.pass.number ≡ given.number
  pub answers : List LiveAnswer
  pub tied : IfSome (left before) (λ text. AreItemsOfEnd history.terms.queries text
      (left served.reader.source) (map item_answered answers) served.end)
  pub replies : AreReplies history served.pass.seen (answers_told answers)
  pub rises : RisesTo 0 (answers_told answers) (published served.pass.seen)
  pub text : HasText (written served.replies) answers served.end
  pub closed : (why : Why) → served.end ≡ Closed why → IsShutFor served.pass.seen why
  pub read : CountsFault (served.end ≡ Read) 0 (faults served.reader.source)
  pub write : CountsFault (served.end ≡ Write) 0 (failures served.replies)

-- the workers of readers with these sources, which had new passes from this number on, gave this
abbrev pub HaveServed : {S K : Type 0} → (S → Option (List ℕ)) → (S → ℕ) →
    (K → Option (List ℕ)) → (K → ℕ) → HistoryValue → ℕ → List S → List (ReaderWork S K) → Type 0
HaveServed left faults written failures history from sources works =
    AllNumbered (λ number before work. HasServed left faults written failures history before
    (new_pass history number) work) from sources works
