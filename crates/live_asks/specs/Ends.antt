-- How the items of a reader and its replies are tied to its end.
use Rattle.std.specs.Prelude.{◌≡◌, ℕ, List, [], ◌++◌, Option, IfSome}
use Rattle.text_items.specs.declared.ends.TextEnd.{TextEnd}
use Rattle.text_items.specs.declared.ends.TextEnd.TheVariants as text
use Rattle.text_items.specs.Items.{items_with}
use Rattle.text_items.specs.Taken.{IsPrefix, IsProperPrefix, AreItemsTaken}
use Rattle.rpq_model.specs.Query.{Query}
use Rattle.live_asks.specs.declared.ends.ReaderEnd.{ReaderEnd}
use Rattle.live_asks.specs.declared.ends.ReaderEnd.TheVariants.{Whole, Left, LongText, Read, Write}
use Rattle.live_asks.specs.declared.ends.ReaderEnd.TheVariants.{Closed, Memory}
use Rattle.live_asks.specs.declared.item.ReaderItem.{ReaderItem}
use Rattle.live_asks.specs.Items.{asking, asked_items}
use Rattle.live_asks.specs.Answers.{LiveAnswer, answers_text, end_answer}

-- the items that are answered of the bytes of a reader's asks by how it ended, where its source has
-- these bytes left: all up to the end of the bytes, or up to the line that ends it; those of the
-- whole lines taken, where a read failed; or a prefix, which isn't all of them where the history
-- was shut
abbrev pub AreItemsOfEnd : List Query → List ℕ → Option (List ℕ) → List ReaderItem → ReaderEnd
    → Type 0
AreItemsOfEnd queries bytes left items Whole =
    (asked_items queries bytes ≡ items_with items text.Whole) × IfSome left (λ rest. rest ≡ [])
AreItemsOfEnd queries bytes left items (Left line) =
    asked_items queries bytes ≡ items_with items (text.Line line)
AreItemsOfEnd queries bytes left items LongText =
    asked_items queries bytes ≡ items_with items text.LongText
AreItemsOfEnd queries bytes left items Read = AreItemsTaken (asking queries) bytes left items
AreItemsOfEnd queries bytes left items Write = IsPrefix items (asked_items queries bytes).items
AreItemsOfEnd queries bytes left items (Closed why) =
    IsProperPrefix items (asked_items queries bytes).items
AreItemsOfEnd queries bytes left items Memory = IsPrefix items (asked_items queries bytes).items

-- the bytes are the text of the answers by how the reader ended: the line that ends it is answered
-- last; and where a write failed they are a part at the front, and not all of it
abbrev pub IsTextOfEnd : List ℕ → List LiveAnswer → ReaderEnd → Type 0
IsTextOfEnd bytes answers Whole = bytes ≡ answers_text answers
IsTextOfEnd bytes answers (Left line) = bytes ≡ answers_text answers ++ end_answer
IsTextOfEnd bytes answers LongText = bytes ≡ answers_text answers
IsTextOfEnd bytes answers Read = bytes ≡ answers_text answers
IsTextOfEnd bytes answers Write = IsProperPrefix bytes (answers_text answers ++ end_answer)
IsTextOfEnd bytes answers (Closed why) = bytes ≡ answers_text answers
IsTextOfEnd bytes answers Memory = bytes ≡ answers_text answers

-- so it is on a sink that tells what was written on it
abbrev pub HasText : Option (List ℕ) → List LiveAnswer → ReaderEnd → Type 0
HasText written answers end = IfSome written (λ bytes. IsTextOfEnd bytes answers end)
