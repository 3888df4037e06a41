-- Which items are taken of a text, by how its reading ended.
use Rattle.std.specs.Prelude.{◌≡◌, ◌≢◌, ℕ, List, [], ◌++◌, Option, Some, IfSome}
use Rattle.std.specs.Io.KnownBytes.{prepend_known}
use Rattle.text_parts.specs.EndedLines.{ended_lines}
use Rattle.text_items.specs.declared.ends.TextEnd.{TextEnd}
use Rattle.text_items.specs.declared.ends.TextEnd.TheVariants.{Whole, LongText, Read, Memory, Line}
use Rattle.text_items.specs.Reading.{Reading}
use Rattle.text_items.specs.Items.{items_with, items_of_lines, text_items}

-- a list is a prefix of another, perhaps all of it
pub record IsPrefix {A : Type 0} (front all : List A) : Type 0 where
  pub rest : List A
  pub cut : all ≡ front ++ rest

-- a list is a prefix of another, and not all of it
pub record IsProperPrefix {A : Type 0} (front all : List A) : Type 0 where
  pub rest : List A
  pub cut : all ≡ front ++ rest
  pub proper : rest ≢ []

-- these bytes were taken from a text, of which these are left
abbrev pub AreTaken : List ℕ → Option (List ℕ) → List ℕ → Type 0
AreTaken text left bytes = Some text ≡ prepend_known bytes left

-- the items of the lines that end with a line feed among the bytes taken of a text, none of which
-- ends the reading
abbrev pub AreItemsTaken : {A E : Type 0} → Reading A E → List ℕ → Option (List ℕ) → List A
    → Type 0
AreItemsTaken reading text left items =
    (bytes : List ℕ) × AreTaken text left bytes
    × (items_of_lines reading (ended_lines bytes) 1 Read ≡ items_with items Read)

-- the items that are taken of a text by how its reading ended, where its source has these bytes
-- left: all up to the end of the text, or up to the line that ends it; or those of the whole lines
-- taken, where a read failed; or a prefix. A text that doesn't have fewer bytes than the limit
-- counts as cut off there
abbrev pub AreItemsByEnd : {A E : Type 0} → Reading A E → ℕ → List ℕ → Option (List ℕ) → List A
    → TextEnd E → Type 0
AreItemsByEnd reading limit text left items Whole =
    (text_items reading limit text ≡ items_with items Whole) × IfSome left (λ rest. rest ≡ [])
AreItemsByEnd reading limit text left items LongText =
    text_items reading limit text ≡ items_with items LongText
AreItemsByEnd reading limit text left items Read = AreItemsTaken reading text left items
AreItemsByEnd reading limit text left items Memory =
    IsPrefix items (text_items reading limit text).items
AreItemsByEnd reading limit text left items (Line fault) =
    text_items reading limit text ≡ items_with items (Line fault)
