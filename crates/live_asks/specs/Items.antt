-- What the lines of a reader ask.
use Rattle.std.specs.Prelude.{ℕ, Bool, false, List, [], ◌∷◌, Option, Some, None, Result, Ok, Err}
use Rattle.std.specs.Prelude.{bytes_eq, codes, if◌then◌else◌}
use Rattle.text_parts.specs.Fields.{fields}
use Rattle.text_items.specs.Reading.{Reading}
use Rattle.text_items.specs.Items.{TextItems, text_items}
use Rattle.text_items.specs.Limits.{most_bytes}
use Rattle.rpq_model.specs.Query.{Query}
use Rattle.ask_text.specs.declared.ask.Ask.{Ask}
use Rattle.ask_text.specs.declared.fault.AskKind.{AskKind}
use Rattle.ask_text.specs.Asks.{fault_at}
use Rattle.ask_text.specs.ByParts.{is_ask_line}
use Rattle.ask_text.specs.Reading.{ask_of_fields}
use Rattle.ask_text.specs.Ranges.{IsInRange}
use Rattle.live_asks.specs.declared.item.ReaderItem.{ReaderItem}
use Rattle.live_asks.specs.declared.item.ReaderItem.TheVariants.{Asked, Faulty, Long}

-- the item of the line with this number, whose fields give an ask or have this fault
abbrev pub item_at : ℕ → Result Ask AskKind → ReaderItem
item_at number (Ok ask) = Asked ask
item_at number (Err kind) = Faulty (fault_at number kind)

-- whether the fields are those of the line that ends a reader
unfoldable pub ends_reader : List (List ℕ) → Bool
ends_reader (word ∷ []) = bytes_eq word (codes "end")
ends_reader others = false

-- what the line with these fields and this number asks, or that it ends the reader
unfoldable pub fields_ask : List Query → ℕ → List (List ℕ) → Result (Option ReaderItem) ℕ
fields_ask queries number fields =
    if ends_reader fields then Err number
    else Ok (Some (item_at number (ask_of_fields queries fields)))

-- what the line with this number asks: a blank line or a comment asks nothing
unfoldable pub line_asks : List Query → ℕ → List ℕ → Result (Option ReaderItem) ℕ
line_asks queries number line =
    if is_ask_line line then fields_ask queries number (fields line) else Ok None

-- how the asks of a reader are read: a line that is too long is an item too
abbrev pub asking : List Query → Reading ReaderItem ℕ
asking queries = record {
  line = line_asks queries;
  long = λ number front. Ok (Some (Long number));
}

-- the items of a reader's asks, which are to have fewer than 2^62 bytes, and how their reading ends
abbrev pub asked_items : List Query → List ℕ → TextItems ReaderItem ℕ
asked_items queries text = text_items (asking queries) most_bytes text

-- the query of the item, if it is an ask of one, is among so many
abbrev pub IsItemInRange : ℕ → ReaderItem → Type 0
IsItemInRange queries (Asked ask) = IsInRange queries ask
IsItemInRange queries (Faulty fault) = Unit {0}
IsItemInRange queries (Long line) = Unit {0}
