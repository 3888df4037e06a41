-- What the worker of a reader does with one item. Only private contracts cite this file.
use Rattle.std.specs.Prelude.{◌≡◌, ℕ, ◌<◌, ◌⊎◌, List, map, Option, IfSome}
use Rattle.std.specs.Io.KnownBytes.{append_known}
use Rattle.rpq_io.specs.Counts.{CountsFault}
use Rattle.rpq_io.specs.Writes.{WritesProperPrefix}
use Rattle.history_model.specs.declared.line.Why.{Why}
use Rattle.history_model.specs.declared.line.Line.{Line}
use Rattle.history_model.specs.Lines.{published, IsShutFor}
use Rattle.stream_history.specs.History.{HistoryValue, IsPassOf}
use Rattle.text_items.specs.Limits.{most_bytes}
use Rattle.text_items.specs.Progress.{IsTextReader, HasRead, passed}
use Rattle.live_asks.specs.declared.ends.ReaderEnd.{ReaderEnd}
use Rattle.live_asks.specs.declared.ends.ReaderEnd.TheVariants.{Whole, Left, LongText, Read, Write}
use Rattle.live_asks.specs.declared.ends.ReaderEnd.TheVariants.{Closed, Memory}
use Rattle.live_asks.specs.declared.item.ReaderItem.{ReaderItem}
use Rattle.live_asks.specs.Items.{asking}
use Rattle.live_asks.specs.Answers.{LiveAnswer, item_answered, answer_text, answers_text}
use Rattle.live_asks.specs.Answers.{answers_told, told_of, end_answer}
use Rattle.live_asks.specs.Ends.{AreItemsOfEnd, HasText}
use Rattle.stream_threads.specs.declared.reader_work.ReaderWork.{ReaderWork}
use Rattle.stream_threads.specs.Sessions.{HasReply, AreReplies, RisesTo}

-- a reader that is being served has its pass, and its asks can be read on
pub record IsServing {S K : Type 0} (left : S → Option (List ℕ)) (history : HistoryValue)
    (work : ReaderWork S K) : Type 0 where
  pub is : IsPassOf history work.pass
  pub sound : IsTextReader left work.reader
  pub limit : work.reader.byte_limit ≡ most_bytes

-- the items that were read of the asks are answered, and the text of the answers stands on the
-- replies
pub record AnswersSoFar {S K : Type 0} (left : S → Option (List ℕ)) (written : K → Option (List ℕ))
    (history : HistoryValue) (file : Option (List ℕ)) (work : ReaderWork S K) : Type 0 where
  pub answers : List LiveAnswer
  pub read : HasRead (asking history.terms.queries) left file (map item_answered answers)
      work.reader
  pub replies : AreReplies history work.pass.seen (answers_told answers)
  pub rises : RisesTo 0 (answers_told answers) (published work.pass.seen)
  pub text : IfSome (written work.replies) (λ bytes. bytes ≡ answers_text answers)

-- the items of the asks by this end are answered, and the text of the answers by this end stands on
-- the replies
pub record AnswersByEnd {S K : Type 0} (left : S → Option (List ℕ)) (written : K → Option (List ℕ))
    (history : HistoryValue) (file : Option (List ℕ)) (work : ReaderWork S K) (end : ReaderEnd)
    : Type 0 where
  pub answers : List LiveAnswer
  pub tied : IfSome file (λ text. AreItemsOfEnd history.terms.queries text
      (left work.reader.source) (map item_answered answers) end)
  pub replies : AreReplies history work.pass.seen (answers_told answers)
  pub rises : RisesTo 0 (answers_told answers) (published work.pass.seen)
  pub text : HasText (written work.replies) answers end

-- one item more was answered
pub record ServesOne {S K : Type 0} (left : S → Option (List ℕ)) (written : K → Option (List ℕ))
    (history : HistoryValue) (old new : ReaderWork S K) : Type 0 where
  pub serving : IsServing left history new
  pub forward : passed old.reader < passed new.reader
  pub answered : (file : Option (List ℕ)) → AnswersSoFar left written history file old
      → AnswersSoFar left written history file new

-- the reader ended so, and the end has its cause
pub record EndsServing {S K : Type 0} (left : S → Option (List ℕ)) (written : K → Option (List ℕ))
    (history : HistoryValue) (old new : ReaderWork S K) (end : ReaderEnd) : Type 0 where
  pub is : IsPassOf history new.pass
  pub ended : (file : Option (List ℕ)) → AnswersSoFar left written history file old
      → AnswersByEnd left written history file new end
  pub closed : (why : Why) → end ≡ Closed why → IsShutFor new.pass.seen why

-- the reader was served to this end, which has its cause
pub record HasStopped {S K : Type 0} (left : S → Option (List ℕ)) (faults : S → ℕ)
    (written : K → Option (List ℕ)) (failures : K → ℕ) (history : HistoryValue)
    (old new : ReaderWork S K) (end : ReaderEnd) : Type 0 where
  pub is : IsPassOf history new.pass
  pub ended : AnswersByEnd left written history (left old.reader.source) new end
  pub closed : (why : Why) → end ≡ Closed why → IsShutFor new.pass.seen why
  pub read : CountsFault (end ≡ Read) 0 (faults new.reader.source)
  pub write : CountsFault (end ≡ Write) 0 (failures new.replies)

-- the item has this answer, by a look at these lines
pub record IsAnsweredBy (history : HistoryValue) (lines : List Line) (item : ReaderItem)
    (answer : LiveAnswer) : Type 0 where
  pub is : item_answered answer ≡ item
  pub reply : IfSome (told_of answer) (λ one. HasReply history lines one)
  pub at : IfSome (told_of answer) (λ one. one.position ≡ published lines)

-- this is the text of an answer to the item, by a look at these lines
pub record IsAnswerText (history : HistoryValue) (lines : List Line) (item : ReaderItem)
    (text : List ℕ) : Type 0 where
  pub answer : LiveAnswer
  pub answered : IsAnsweredBy history lines item answer
  pub text_is : text ≡ answer_text answer

-- an item isn't answered, since the history was shut or memory ran out
abbrev pub IsUnanswered : List Line → ReaderEnd → Type 0
IsUnanswered lines Whole = ⊥
IsUnanswered lines (Left line) = ⊥
IsUnanswered lines LongText = ⊥
IsUnanswered lines Read = ⊥
IsUnanswered lines Write = ⊥
IsUnanswered lines (Closed why) = IsShutFor lines why
IsUnanswered lines Memory = Unit {0}

-- the item was answered on the replies
pub record PutsAnswer (history : HistoryValue) (lines : List Line) (item : ReaderItem)
    (before after : Option (List ℕ)) : Type 0 where
  pub answer : LiveAnswer
  pub answered : IsAnsweredBy history lines item answer
  pub written : after ≡ append_known before (answer_text answer)

-- the item was answered with a part of the answer at its front, behind which a write failed
pub record CutsAnswer (history : HistoryValue) (lines : List Line) (item : ReaderItem)
    (before after : Option (List ℕ)) : Type 0 where
  pub answer : LiveAnswer
  pub answered : IsAnsweredBy history lines item answer
  pub written : WritesProperPrefix (answer_text answer) before after

-- the item ended the reader: a write failed, or it isn't answered and nothing was written
abbrev pub EndsAtItem : HistoryValue → List Line → ReaderItem → Option (List ℕ) →
    Option (List ℕ) → ReaderEnd → Type 0
EndsAtItem history lines item before after Write = CutsAnswer history lines item before after
EndsAtItem history lines item before after Whole = ⊥
EndsAtItem history lines item before after (Left line) = ⊥
EndsAtItem history lines item before after LongText = ⊥
EndsAtItem history lines item before after Read = ⊥
EndsAtItem history lines item before after (Closed why) =
    (after ≡ before) × IsShutFor lines why
EndsAtItem history lines item before after Memory = after ≡ before

-- this is how a reader ends whose asks were read to an end: the line that ends it was answered, or
-- a write failed behind a part of that answer; else nothing was written
abbrev pub IsLastEnd : Option (List ℕ) → Option (List ℕ) → ReaderEnd → ReaderEnd → Type 0
IsLastEnd before after (Left line) last =
    ((last ≡ Left line) × (after ≡ append_known before end_answer))
    ⊎ ((last ≡ Write) × WritesProperPrefix end_answer before after)
IsLastEnd before after Whole last = (last ≡ Whole) × (after ≡ before)
IsLastEnd before after LongText last = (last ≡ LongText) × (after ≡ before)
IsLastEnd before after Read last = (last ≡ Read) × (after ≡ before)
IsLastEnd before after Write last = (last ≡ Write) × (after ≡ before)
IsLastEnd before after (Closed why) last = (last ≡ Closed why) × (after ≡ before)
IsLastEnd before after Memory last = (last ≡ Memory) × (after ≡ before)
