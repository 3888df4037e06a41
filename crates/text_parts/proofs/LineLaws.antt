-- The lines of a text are the text.
use Rattle.std.proofs.Common.{◌≡◌, ◌≢◌, ℕ, ◌<◌, Bool, true, false, cond, eqb, List, [], ◌∷◌, ◌++◌, length, refl, sym, ap, ◌∙◌, arith}
use Rattle.std.proofs.lemmas.Bool.{eqb-false, eqb-true}
use Rattle.std.specs.List.{onto_first, All}
use Rattle.std.proofs.lemmas.List.Elements.{All-nil, All-cons, All-same}
use Rattle.text_parts.specs.Lines.{raw_lines, text_of, has_ended, IsLine, LinesAreTheText}
use Rattle.text_parts.proofs.FirstPart.{all_onto_first}
use Rattle.text_parts.proofs.Cuts.{raw_lines_cons_feed, raw_lines_cons_other, raw_lines_nil}

-- no raw line holds a line feed
raw_lines_whole : (text : List ℕ) → All IsLine (raw_lines text)
raw_lines_whole [] = All-same IsLine _ _ raw_lines_nil (All-nil IsLine)
raw_lines_whole (byte ∷ text) = by (eqb byte 10) refl (raw_lines_whole text)
  where
    by : (feeds : Bool) → eqb byte 10 ≡ feeds → All IsLine (raw_lines text) → All IsLine (raw_lines (byte ∷ text))
    by true e rest = All-same IsLine _ _ (raw_lines_cons_feed byte text e) (All-cons IsLine [] (raw_lines text) (All-nil (λ b. b ≢ 10)) rest)
    by false e rest = All-same IsLine _ _ (raw_lines_cons_other byte text e) (all_onto_first (λ b. b ≢ 10) byte (raw_lines text) (eqb-false byte 10 e) rest)

-- a text of some bytes has some lines
raw_lines_some : (text : List ℕ) → 0 < length text → 0 < length (raw_lines text)
raw_lines_some [] l = absurd (omega arith)
raw_lines_some (byte ∷ text) l = by (eqb byte 10) refl
  where
    some : (lines : List (List ℕ)) → 0 < length (onto_first byte lines)
    some [] = omega arith
    some (line ∷ lines) = omega arith

    by : (feeds : Bool) → eqb byte 10 ≡ feeds → 0 < length (raw_lines (byte ∷ text))
    by true e = omega (arith, ap length (raw_lines_cons_feed byte text e))
    by false e = omega (arith, ap length (raw_lines_cons_other byte text e), some (raw_lines text))

-- a byte onto the first line is a byte in front of the text
text_of_onto_first : (byte : ℕ) (lines : List (List ℕ)) → 0 < length lines → text_of (onto_first byte lines) ≡ byte ∷ text_of lines
text_of_onto_first byte [] l = absurd (omega arith)
text_of_onto_first byte (line ∷ lines) l = refl

-- the text, with the line feed that its end may lack
abbrev ended : Bool → List ℕ → List ℕ
ended has text = cond has text (text ++ 10 ∷ [])

-- a byte in front of it
ended_cons : (byte : ℕ) (has : Bool) (text : List ℕ) → byte ∷ ended has text ≡ ended has (byte ∷ text)
ended_cons byte true text = refl
ended_cons byte false text = refl

-- the raw lines, each followed by a line feed, are the text
raw_lines_joined : (text : List ℕ) → text_of (raw_lines text) ≡ ended (has_ended text) text
raw_lines_joined [] = ap text_of raw_lines_nil
raw_lines_joined (byte ∷ []) = by (eqb byte 10) refl
  where
    by : (feeds : Bool) → eqb byte 10 ≡ feeds → text_of (raw_lines (byte ∷ [])) ≡ ended (has_ended (byte ∷ [])) (byte ∷ [])
    by true e = ap text_of (raw_lines_cons_feed byte [] e) ∙ ap (λ lines. text_of ([] ∷ lines)) raw_lines_nil
        ∙ ap (λ b. b ∷ []) (sym (eqb-true byte 10 e)) ∙ ap (λ has. ended has (byte ∷ [])) (sym e)
    by false e = ap text_of (raw_lines_cons_other byte [] e) ∙ ap (λ lines. text_of (onto_first byte lines)) raw_lines_nil
        ∙ ap (λ has. ended has (byte ∷ [])) (sym e)
raw_lines_joined (byte ∷ next ∷ text) =
    by (eqb byte 10) refl (ap (λ more. byte ∷ more) (raw_lines_joined (next ∷ text)) ∙ ended_cons byte (has_ended (next ∷ text)) (next ∷ text))
  where
    by : (feeds : Bool) → eqb byte 10 ≡ feeds → byte ∷ text_of (raw_lines (next ∷ text)) ≡ ended (has_ended (next ∷ text)) (byte ∷ next ∷ text)
        → text_of (raw_lines (byte ∷ next ∷ text)) ≡ ended (has_ended (next ∷ text)) (byte ∷ next ∷ text)
    by true e rest = ap text_of (raw_lines_cons_feed byte (next ∷ text) e) ∙ ap (λ b. b ∷ text_of (raw_lines (next ∷ text))) (sym (eqb-true byte 10 e)) ∙ rest
    by false e rest = ap text_of (raw_lines_cons_other byte (next ∷ text) e)
        ∙ text_of_onto_first byte (raw_lines (next ∷ text)) (raw_lines_some (next ∷ text) (omega arith)) ∙ rest

-- the raw lines of every text are the text
pub lines_are_the_text : LinesAreTheText
lines_are_the_text text = record { whole = raw_lines_whole text; joined = raw_lines_joined text }
