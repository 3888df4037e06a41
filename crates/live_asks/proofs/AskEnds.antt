-- How the end of a reader follows from that of the reading of its asks.
use Rattle.std.proofs.Common.{◌≡◌, ℕ, List, Option, sym, subst}
use Rattle.std.proofs.lemmas.Option.{IfSome_then}
use Rattle.rpq_io.specs.Reader.{ReaderState}
use Rattle.text_items.specs.declared.ends.TextEnd.{TextEnd}
use Rattle.text_items.specs.declared.ends.TextEnd.TheVariants.{Whole, LongText, Read, Memory, Line}
use Rattle.text_items.specs.Limits.{most_bytes}
use Rattle.text_items.specs.Taken.{AreItemsByEnd}
use Rattle.text_items.specs.Progress.{EndsReading}
use Rattle.rpq_model.specs.Query.{Query}
use Rattle.live_asks.specs.declared.ends.ReaderEnd.{ReaderEnd}
use Rattle.live_asks.specs.declared.item.ReaderItem.{ReaderItem}
use Rattle.live_asks.specs.Items.{asking}
use Rattle.live_asks.specs.Ends.{AreItemsOfEnd}
use Rattle.live_asks.specs.Progress.{end_of, IsAskEnd, EndsAsks}

by_end : (queries : List Query) (bytes : List ℕ) (left : Option (List ℕ))
    (items : List ReaderItem) (end : TextEnd ℕ) →
    AreItemsByEnd (asking queries) most_bytes bytes left items end →
    AreItemsOfEnd queries bytes left items (end_of end)
by_end queries bytes left items Whole is = is
by_end queries bytes left items LongText is = is
by_end queries bytes left items Read is = is
by_end queries bytes left items Memory is = is
by_end queries bytes left items (Line line) is = is

is_ask_end : (end : TextEnd ℕ) → IsAskEnd (end_of end)
is_ask_end Whole = tt
is_ask_end LongText = tt
is_ask_end Read = tt
is_ask_end Memory = tt
is_ask_end (Line line) = tt

pub ends_asks : {S : Type 0} (queries : List Query) (left : S → Option (List ℕ))
    (old new : ReaderState S) (end : TextEnd ℕ) (told : ReaderEnd) →
    new.byte_limit ≡ most_bytes → told ≡ end_of end →
    EndsReading (asking queries) left old new end → EndsAsks queries left old new told
ends_asks queries left old new end told limit is ends =
    subst (EndsAsks queries left old new) (sym is) (record {
      tied = λ file items read. IfSome_then file (ends.tied file items read) (λ bytes tied.
          by_end queries bytes (left new.source) items end
          (subst (λ (most : ℕ). AreItemsByEnd (asking queries) most bytes (left new.source) items
          end) limit tied));
      met = is_ask_end end;
    })
