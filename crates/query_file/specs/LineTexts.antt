-- The parts of a query line, field by field. No public contract cites this file.
use Rattle.std.specs.Prelude.{◌≡◌, ℕ, List, [], ◌∷◌, ◌++◌, codes}
use Rattle.text_parts.specs.Fields.{AreBlanks}
use Rattle.rpq_model.specs.declared.mode.Mode.{Mode}
use Rattle.query_file.specs.FirstField.{IsFirstField}
use Rattle.query_file.specs.QueryLine.{mode_text, EndsWithBlank}

-- the rest is blanks, of which there is one at least, the word for the mode, and the expression
pub record IsModeCut (rest : List ℕ) (mode : Mode) (expr : List ℕ) : Type 0 where
  pub blanks : List ℕ
  pub are : AreBlanks blanks
  pub apart : EndsWithBlank blanks
  pub split : rest ≡ blanks ++ (mode_text mode ++ expr)

-- the line begins with these fields, and behind them stands the rest
abbrev pub IsBehind : List (List ℕ) → List ℕ → List ℕ → Type 0
IsBehind [] line rest = line ≡ rest
IsBehind (field ∷ fields) line rest =
    (next : List ℕ) × IsFirstField line field next × IsBehind fields next rest

-- the line has these fields, the word for the mode, and the expression
pub record AreTexts (line name size slide : List ℕ) (mode : Mode) (expr : List ℕ) : Type 0 where
  pub rest : List ℕ
  pub behind : IsBehind (codes "query" ∷ name ∷ codes "window" ∷ size ∷ codes "slide" ∷ slide ∷ [])
      line rest
  pub cut : IsModeCut rest mode expr

-- the line has some of them
pub record HasTexts (line : List ℕ) : Type 0 where
  pub name : List ℕ
  pub size : List ℕ
  pub slide : List ℕ
  pub mode : Mode
  pub expr : List ℕ
  pub are : AreTexts line name size slide mode expr
