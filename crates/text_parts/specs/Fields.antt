-- The fields of a line.
use Rattle.std.specs.Prelude.{◌≡◌, ◌≢◌, ℕ, true, false, ◌==◌, not}
use Rattle.std.specs.Prelude.{List, [], ◌∷◌, ◌++◌, length, filter, All}
use Rattle.std.specs.List.{slice_split, join_with_byte}
use Rattle.text_parts.specs.Lines.{is_blank}

-- the fields of a line: its greatest runs of bytes that aren't blank
unfoldable pub fields : List ℕ → List (List ℕ)
fields line = filter (λ run. not (length run == 0)) (slice_split is_blank line)

-- some bytes of which none is blank
pub record IsField (field : List ℕ) : Type 0 where
  pub some : field ≢ []
  pub solid : All (λ byte. is_blank byte ≡ false) field

-- spaces and tabs alone, or no byte
abbrev pub AreBlanks : List ℕ → Type 0
AreBlanks blanks = All (λ byte. is_blank byte ≡ true) blanks

-- fields with one space between each two are read as these fields
abbrev pub JoinedFieldsAreRead : Type 0
JoinedFieldsAreRead =
    (list : List (List ℕ)) → All IsField list → fields (join_with_byte 32 list) ≡ list

-- the fields of a line by its runs: blanks alone have none; a field behind blanks is the first, and
-- what stands behind it begins with a blank and has the others
pub record FieldsByRuns : Type 0 where
  pub none : (blanks : List ℕ) → AreBlanks blanks → fields blanks ≡ []
  pub last : (blanks field : List ℕ) → AreBlanks blanks → IsField field →
      fields (blanks ++ field) ≡ field ∷ []
  pub more : (blanks field : List ℕ) (blank : ℕ) (rest : List ℕ) → AreBlanks blanks →
      IsField field → is_blank blank ≡ true →
      fields (blanks ++ (field ++ blank ∷ rest)) ≡ field ∷ fields rest
