-- What the items of a reader are answered with, and how the answers stand on its replies.
use Rattle.std.specs.Prelude.{◌≡◌, ℕ, List, [], ◌++◌, flat_map, codes, decimal, Option, Some, None}
use Rattle.std.specs.Prelude.{IfSome}
use Rattle.std.specs.List.{filter_map}
use Rattle.ask_text.specs.declared.fault.AskFault.{AskFault}
use Rattle.ask_text.specs.Answered.{AnsweredValue}
use Rattle.ask_text.specs.FaultTexts.{ask_kind_text}
use Rattle.live_asks.specs.declared.ends.ReaderEnd.{ReaderEnd}
use Rattle.live_asks.specs.declared.ends.ReaderEnd.TheVariants.{Whole, Left, LongText, Read, Write}
use Rattle.live_asks.specs.declared.ends.ReaderEnd.TheVariants.{Closed, Memory}
use Rattle.live_asks.specs.declared.item.ReaderItem.{ReaderItem}
use Rattle.live_asks.specs.declared.item.ReaderItem.TheVariants.{Asked, Faulty, Long}

-- an item with what it is answered with: an ask with its reply at a position, a fault, or a line
-- that is too long
pub data LiveAnswer : Type 0 where
  Told : AnsweredValue → LiveAnswer
  Refused : AskFault → LiveAnswer
  TooLong : ℕ → LiveAnswer

-- the item that was answered
abbrev pub item_answered : LiveAnswer → ReaderItem
item_answered (Told one) = Asked one.ask
item_answered (Refused fault) = Faulty fault
item_answered (TooLong line) = Long line

-- what the line with this number is answered with, of which this is wrong
abbrev pub numbered_answer : ℕ → List ℕ → List ℕ
numbered_answer line wrong = codes "error line " ++ decimal line ++ codes ": " ++ wrong ++ codes "\n"

-- what a fault is answered with, as `error line 7: unknown query`
abbrev pub fault_answer : AskFault → List ℕ
fault_answer fault = numbered_answer fault.line (ask_kind_text fault.kind)

-- what the line with this number is answered with if it is too long
abbrev pub long_answer : ℕ → List ℕ
long_answer line = numbered_answer line (codes "too long")

-- the text of an answer
abbrev pub answer_text : LiveAnswer → List ℕ
answer_text (Told one) = one.text
answer_text (Refused fault) = fault_answer fault
answer_text (TooLong line) = long_answer line

-- the text of answers, one after another
abbrev pub answers_text : List LiveAnswer → List ℕ
answers_text answers = flat_map answer_text answers

-- an ask with its reply
abbrev pub told_of : LiveAnswer → Option AnsweredValue
told_of (Told one) = Some one
told_of (Refused fault) = None
told_of (TooLong line) = None

-- the asks among them, with their replies
abbrev pub answers_told : List LiveAnswer → List AnsweredValue
answers_told answers = filter_map told_of answers

-- what the line that ends a reader is answered with
abbrev pub end_answer : List ℕ
end_answer = codes "end\n"
