-- How far a text is read.
use Rattle.std.specs.Prelude.{◌≡◌, ℕ, ◌+◌, ◌-◌, ◌<◌, ◌≤◌, ◌⊎◌, true, false, List, [], ◌++◌, length}
use Rattle.std.specs.Prelude.{All, Option, IfSome}
use Rattle.std.specs.Io.KnownBytes.{prepend_known}
use Rattle.text_parts.specs.Lines.{IsLine, text_of}
use Rattle.rpq_io.specs.Reader.{ReaderState}
use Rattle.text_items.specs.declared.ends.TextEnd.{TextEnd}
use Rattle.text_items.specs.declared.ends.TextEnd.TheVariants.{Whole}
use Rattle.text_items.specs.Limits.{line_limit, most_bytes}
use Rattle.text_items.specs.Reading.{Reading, IsMet}
use Rattle.text_items.specs.Items.{items_with, items_before, items_of_lines, text_items}
use Rattle.text_items.specs.Taken.{AreItemsByEnd}

-- a reader has the limits of a text; each line that it gave took a byte at least; and it was told
-- the end before its limit, after the last byte
pub record IsTextReader {S : Type 0} (left : S → Option (List ℕ)) (reader : ReaderState S)
    : Type 0 where
  pub lines : reader.line_limit ≡ line_limit
  pub bytes : reader.byte_limit ≤ most_bytes
  pub counted : reader.line_count + length reader.held_bytes ≤ reader.taken_count
  pub within : reader.taken_count ≤ reader.byte_limit
  pub before_limit : reader.is_at_end ≡ true → reader.taken_count < reader.byte_limit
  pub at_end : reader.is_at_end ≡ true → IfSome (left reader.source) (λ rest. rest ≡ [])

-- a reader that took nothing yet
pub record IsNew {S : Type 0} (reader : ReaderState S) : Type 0 where
  pub no_bytes : reader.held_bytes ≡ []
  pub none_taken : reader.taken_count ≡ 0
  pub no_line : reader.line_count ≡ 0
  pub not_at_end : reader.is_at_end ≡ false

-- how many bytes a reader gave as lines, line feeds counted
abbrev pub passed : {S : Type 0} → ReaderState S → ℕ
passed reader = reader.taken_count - length reader.held_bytes

-- lines with a line feed were read, none of which ends the reading: whatever lines follow, these
-- items come before theirs
pub record HasReadLines {S A E : Type 0} (reading : Reading A E) (left : S → Option (List ℕ))
    (file : Option (List ℕ)) (items : List A) (reader : ReaderState S) : Type 0 where
  pub lines : List (List ℕ)
  pub whole : All IsLine lines
  pub came : file ≡ prepend_known (text_of lines ++ reader.held_bytes) (left reader.source)
  pub read : (more : List (List ℕ)) (end : TextEnd E) →
      items_of_lines reading (lines ++ more) 1 end
      ≡ items_before items (items_of_lines reading more (length lines + 1) end)
  pub counted : reader.line_count ≡ length lines
  pub measured : reader.taken_count ≡ length (text_of lines) + length reader.held_bytes

-- the last line was read, which has no line feed, and the items of the text are these
pub record HasReadAll {S A E : Type 0} (reading : Reading A E) (file : Option (List ℕ))
    (items : List A) (reader : ReaderState S) : Type 0 where
  pub none : reader.held_bytes ≡ []
  pub told : reader.is_at_end ≡ true
  pub all : IfSome file (λ text.
      text_items reading reader.byte_limit text ≡ items_with items Whole)

-- the lines that a reader gave don't end the reading, and give these items
abbrev pub HasRead : {S A E : Type 0} → Reading A E → (S → Option (List ℕ)) → Option (List ℕ)
    → List A → ReaderState S → Type 0
HasRead reading left file items reader =
    HasReadLines reading left file items reader ⊎ HasReadAll reading file items reader

-- a text was read on by lines that give these items
pub record ReadsOn {S A E : Type 0} (reading : Reading A E) (left : S → Option (List ℕ))
    (old new : ReaderState S) (found : List A) : Type 0 where
  pub sound : IsTextReader left new
  pub forward : passed old < passed new
  pub read : (file : Option (List ℕ)) (items : List A) → HasRead reading left file items old
      → HasRead reading left file (items ++ found) new

-- a text was read on to this end, which the reading met by itself
pub record EndsReading {S A E : Type 0} (reading : Reading A E) (left : S → Option (List ℕ))
    (old new : ReaderState S) (end : TextEnd E) : Type 0 where
  pub tied : (file : Option (List ℕ)) (items : List A) → HasRead reading left file items old
      → IfSome file (λ text.
      AreItemsByEnd reading new.byte_limit text (left new.source) items end)
  pub met : IsMet reading end
