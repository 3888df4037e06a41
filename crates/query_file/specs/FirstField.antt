-- The first field of a line, and what stands behind it.
use Rattle.std.specs.Prelude.{◌≡◌, ℕ, Bool, false, not, List, [], ◌∷◌, ◌++◌}
use Rattle.text_parts.specs.Lines.{is_blank}
use Rattle.text_parts.specs.Fields.{IsField, AreBlanks}

-- a run of bytes that pass the test ends where this text begins: it is empty, or its first byte
-- doesn't pass
abbrev pub EndsRun : (ℕ → Bool) → List ℕ → Type 0
EndsRun test [] = Unit {0}
EndsRun test (byte ∷ text) = test byte ≡ false

-- the text is empty, or begins with a space or a tab
abbrev pub EndsField : List ℕ → Type 0
EndsField text = EndsRun (λ byte. not (is_blank byte)) text

-- the line is blanks and then this text, which begins with none
pub record IsBehindBlanks (line text : List ℕ) : Type 0 where
  pub blanks : List ℕ
  pub are : AreBlanks blanks
  pub split : line ≡ blanks ++ text
  pub ends : EndsRun is_blank text

-- the line is blanks, the field, and the rest, which is empty or begins with a blank
pub record IsFirstField (line field rest : List ℕ) : Type 0 where
  pub blanks : List ℕ
  pub are : AreBlanks blanks
  pub split : line ≡ blanks ++ (field ++ rest)
  pub solid : IsField field
  pub ends : EndsField rest

-- a line has one first field at most
abbrev pub OneFirstField : Type 0
OneFirstField =
    (line first rest second other : List ℕ) → IsFirstField line first rest →
    IsFirstField line second other → (first ≡ second) × (rest ≡ other)
