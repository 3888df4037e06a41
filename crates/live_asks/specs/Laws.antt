-- What the definitions are meant to say, as laws.
use Rattle.std.specs.Prelude.{◌≡◌, ◌≢◌, ◌↔◌, ℕ, ◌≤◌, true, false, List, [], ◌∷◌, ◌++◌, map, length}
use Rattle.std.specs.Prelude.{codes, None, Some, Ok, Err}
use Rattle.text_parts.specs.Fields.{fields}
use Rattle.text_items.specs.declared.ends.TextEnd.TheVariants.{Whole}
use Rattle.text_items.specs.Items.{items_with}
use Rattle.rpq_model.specs.Query.{Query}
use Rattle.ask_text.specs.declared.ask.Ask.{Ask}
use Rattle.ask_text.specs.declared.fault.AskFault.{AskFault}
use Rattle.ask_text.specs.Asks.{asks}
use Rattle.ask_text.specs.ByParts.{is_ask_line}
use Rattle.ask_text.specs.Reading.{ask_of_fields}
use Rattle.live_asks.specs.declared.item.ReaderItem.TheVariants.{Asked, Faulty}
use Rattle.live_asks.specs.Items.{line_asks, asked_items}

-- the fields of the line that ends a reader
abbrev pub end_fields : List (List ℕ)
end_fields = codes "end" ∷ []

-- what the line with this number asks, by its parts
pub record AsksByParts (queries : List Query) (number : ℕ) (line : List ℕ) : Type 0 where
  pub none : (line_asks queries number line ≡ Ok None) ↔ (is_ask_line line ≡ false)
  pub last : (end : ℕ) → (line_asks queries number line ≡ Err end)
      ↔ ((is_ask_line line ≡ true) × (fields line ≡ end_fields) × (end ≡ number))
  pub asked : (ask : Ask) → (line_asks queries number line ≡ Ok (Some (Asked ask)))
      ↔ ((is_ask_line line ≡ true) × (ask_of_fields queries (fields line) ≡ Ok ask))
  pub faulty : (fault : AskFault) → (line_asks queries number line ≡ Ok (Some (Faulty fault)))
      ↔ ((is_ask_line line ≡ true) × (fields line ≢ end_fields) × (fault.line ≡ number)
      × (ask_of_fields queries (fields line) ≡ Err fault.kind))

abbrev pub LinesAskByParts : Type 0
LinesAskByParts = (queries : List Query) (number : ℕ) (line : List ℕ) →
    AsksByParts queries number line

-- a text that asks of a reader nothing but these asks, which are at most 1,024, is a session with
-- the same asks
abbrev pub AsksAreASession : Type 0
AsksAreASession = (queries : List Query) (text : List ℕ) (list : List Ask) → length list ≤ 1024 →
    asked_items queries text ≡ items_with (map (λ ask. Asked ask) list) Whole →
    asks queries (codes "session\n" ++ text) ≡ Ok (list ∷ [])
