-- How far the asks of a reader are read. Only contracts of workers cite this file.
use Rattle.std.specs.Prelude.{◌≡◌, ℕ, List, Option, IfSome}
use Rattle.rpq_io.specs.Reader.{ReaderState}
use Rattle.text_items.specs.declared.ends.TextEnd.{TextEnd}
use Rattle.text_items.specs.declared.ends.TextEnd.TheVariants as text
use Rattle.text_items.specs.Progress.{HasRead}
use Rattle.rpq_model.specs.Query.{Query}
use Rattle.live_asks.specs.declared.ends.ReaderEnd.{ReaderEnd}
use Rattle.live_asks.specs.declared.ends.ReaderEnd.TheVariants.{Whole, Left, LongText, Read, Write}
use Rattle.live_asks.specs.declared.ends.ReaderEnd.TheVariants.{Closed, Memory}
use Rattle.live_asks.specs.declared.item.ReaderItem.{ReaderItem}
use Rattle.live_asks.specs.Items.{asking}
use Rattle.live_asks.specs.Ends.{AreItemsOfEnd}

-- the end of a reader whose asks were read to this end
abbrev pub end_of : TextEnd ℕ → ReaderEnd
end_of text.Whole = Whole
end_of text.LongText = LongText
end_of text.Read = Read
end_of text.Memory = Memory
end_of (text.Line line) = Left line

-- an end that the reading of asks meets by itself
abbrev pub IsAskEnd : ReaderEnd → Type 0
IsAskEnd Whole = Unit {0}
IsAskEnd (Left line) = Unit {0}
IsAskEnd LongText = Unit {0}
IsAskEnd Read = Unit {0}
IsAskEnd Write = ⊥
IsAskEnd (Closed why) = ⊥
IsAskEnd Memory = Unit {0}

-- asks were read on to this end, which the reading met by itself
pub record EndsAsks {S : Type 0} (queries : List Query) (left : S → Option (List ℕ))
    (old new : ReaderState S) (end : ReaderEnd) : Type 0 where
  pub tied : (file : Option (List ℕ)) (items : List ReaderItem)
      → HasRead (asking queries) left file items old
      → IfSome file (λ bytes. AreItemsOfEnd queries bytes (left new.source) items end)
  pub met : IsAskEnd end
