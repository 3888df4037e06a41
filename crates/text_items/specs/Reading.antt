-- How texts of a kind are read: what a line of them gives.
use Rattle.std.specs.Prelude.{◌≡◌, ℕ, nat_le, List, length, take, Option, Result, Err}
use Rattle.std.specs.Prelude.{◌⊎◌, if◌then◌else◌}
use Rattle.text_parts.specs.Lines.{without_return}
use Rattle.text_items.specs.declared.ends.TextEnd.{TextEnd}
use Rattle.text_items.specs.declared.ends.TextEnd.TheVariants.{Whole, LongText, Read, Memory, Line}
use Rattle.text_items.specs.Limits.{line_limit}

-- what a line gives, by its number, from 1, and its bytes: an item or nothing; or it ends the
-- reading. A line stands without its line feed and its carriage return; of one that is too long
-- there are the first bytes
pub record Reading (A E : Type 0) : Type 0 where
  pub line : ℕ → List ℕ → Result (Option A) E
  pub long : ℕ → List ℕ → Result (Option A) E

-- what the raw line with this number gives
abbrev pub raw_gives : {A E : Type 0} → Reading A E → ℕ → List ℕ → Result (Option A) E
raw_gives reading number line =
    if nat_le (length line) line_limit
    then reading.line number (without_return line) else reading.long number (take line_limit line)

-- the end of a reading at a line that gives this
abbrev pub EndsAt : {A E : Type 0} → Result (Option A) E → TextEnd E → Type 0
EndsAt {A} {E} gives end = (fault : E) × (end ≡ Line fault) × (gives ≡ Err fault)

-- an end that a call meets which reads one line: that of the line, or memory ran out
abbrev pub EndsLine : {A E : Type 0} → Result (Option A) E → TextEnd E → Type 0
EndsLine gives end = (end ≡ Memory) ⊎ EndsAt gives end

-- an end that the reading of a text can meet: some line gives it, if it is that of a line
abbrev pub IsMet : {A E : Type 0} → Reading A E → TextEnd E → Type 0
IsMet reading Whole = Unit {0}
IsMet reading LongText = Unit {0}
IsMet reading Read = Unit {0}
IsMet reading Memory = Unit {0}
IsMet reading (Line fault) = (number : ℕ) × (line : List ℕ)
    × ((reading.line number line ≡ Err fault) ⊎ (reading.long number line ≡ Err fault))
