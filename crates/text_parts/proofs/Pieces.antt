-- The lines of a text that end with a line feed, and the open one.
use Rattle.std.proofs.Common.{◌≡◌, ◌≢◌, ℕ, zero, suc, ◌-◌, ◌<◌, ◌≤◌, false, eqb, List, [], ◌∷◌, ◌++◌, length, take, get_or, refl}
use Rattle.std.proofs.Common.{ap, ap₂, sym, subst, ◌∙◌, arith, ne_eqb, length-append, inl, inr}
use Rattle.std.specs.List.{All}
use Rattle.std.proofs.lemmas.List.{append-nil}
use Rattle.std.proofs.lemmas.List.Elements.{All-nil, All-cons, All-head, All-tail, All-same, All-weaker}
use Rattle.std.proofs.lemmas.List.Concat.{flat_map-append}
use Rattle.std.proofs.lemmas.List.Splits.{slice_split_at, slice_split_none, length-slice_split}
use Rattle.text_parts.specs.Lines.{text_of, IsLine}
use Rattle.text_parts.specs.EndedLines.{pieces, ended_lines, open_line, AreEndedLinesOf, EndedLinesAreTheText}
use Rattle.text_parts.proofs.Cuts.{regrouped}
use Rattle.text_parts.proofs.LineLengths.{first_cut}

-- ---- pieces

-- no byte of a line passes the test for line feeds
no_feed : (line : List ℕ) → IsLine line → All (λ byte. eqb byte 10 ≡ false) line
no_feed line whole = All-weaker (λ byte. byte ≢ 10) (λ byte. eqb byte 10 ≡ false) (λ byte other. ne_eqb byte 10 other) line whole

-- a line and its line feed in front are the first piece
pub pieces_first : (line rest : List ℕ) → IsLine line → pieces (line ++ 10 ∷ rest) ≡ line ∷ pieces rest
pieces_first line rest whole = slice_split_at (λ byte. eqb byte 10) line 10 rest (no_feed line whole) refl

-- a line alone is the one piece
pub pieces_only : (line : List ℕ) → IsLine line → pieces line ≡ line ∷ []
pieces_only line whole = slice_split_none (λ byte. eqb byte 10) line (no_feed line whole)

-- there is a piece
pub pieces_some : (text : List ℕ) → 0 < length (pieces text)
pieces_some text = omega (arith, length-slice_split (λ byte. eqb byte 10) text)

-- all but the last of some pieces, and one in front
front_cons : (piece : List ℕ) (rest : List (List ℕ)) → 0 < length rest → take (length (piece ∷ rest) - 1) (piece ∷ rest) ≡ piece ∷ take (length rest - 1) rest
front_cons piece [] some = absurd (omega arith)
front_cons piece (next ∷ rest) some =
    let e : length (piece ∷ next ∷ rest) - 1 ≡ suc (length (next ∷ rest) - 1) = omega arith in
    ap (λ n. take n (piece ∷ next ∷ rest)) e

-- the last of some pieces is so with one in front
last_cons : (piece : List ℕ) (rest : List (List ℕ)) → 0 < length rest → get_or (piece ∷ rest) (length (piece ∷ rest) - 1) [] ≡ get_or rest (length rest - 1) []
last_cons piece [] some = absurd (omega arith)
last_cons piece (next ∷ rest) some =
    let e : length (piece ∷ next ∷ rest) - 1 ≡ suc (length (next ∷ rest) - 1) = omega arith in
    ap (λ n. get_or (piece ∷ next ∷ rest) n []) e

-- ---- ended lines and the open one

-- a line and its line feed in front are the first ended line
pub ended_first : (line rest : List ℕ) → IsLine line → ended_lines (line ++ 10 ∷ rest) ≡ line ∷ ended_lines rest
unfolding ended_lines
ended_first line rest whole = ap (λ ps. take (length ps - 1) ps) (pieces_first line rest whole) ∙ front_cons line (pieces rest) (pieces_some rest)

-- a line alone isn't ended
pub ended_only : (line : List ℕ) → IsLine line → ended_lines line ≡ []
unfolding ended_lines
ended_only line whole = ap (λ ps. take (length ps - 1) ps) (pieces_only line whole)

-- a line and its line feed in front leave the open line
pub open_first : (line rest : List ℕ) → IsLine line → open_line (line ++ 10 ∷ rest) ≡ open_line rest
unfolding open_line
open_first line rest whole = ap (λ ps. get_or ps (length ps - 1) []) (pieces_first line rest whole) ∙ last_cons line (pieces rest) (pieces_some rest)

-- a line alone is open
pub open_only : (line : List ℕ) → IsLine line → open_line line ≡ line
unfolding open_line
open_only line whole = ap (λ ps. get_or ps (length ps - 1) []) (pieces_only line whole)

-- lines and their line feeds in front are the first ended lines
pub ended_many : (lines : List (List ℕ)) (rest : List ℕ) → All IsLine lines → ended_lines (text_of lines ++ rest) ≡ lines ++ ended_lines rest
ended_many [] rest whole = refl
ended_many (line ∷ lines) rest whole =
    ap ended_lines (regrouped line lines rest)
    ∙ (ended_first line (text_of lines ++ rest) (All-head IsLine line lines whole)
    ∙ ap (λ ls. line ∷ ls) (ended_many lines rest (All-tail IsLine line lines whole)))

-- and leave the open line
pub open_many : (lines : List (List ℕ)) (rest : List ℕ) → All IsLine lines → open_line (text_of lines ++ rest) ≡ open_line rest
open_many [] rest whole = refl
open_many (line ∷ lines) rest whole =
    ap open_line (regrouped line lines rest)
    ∙ (open_first line (text_of lines ++ rest) (All-head IsLine line lines whole) ∙ open_many lines rest (All-tail IsLine line lines whole))

-- ---- the text of lines

-- one line more
pub text_push : (lines : List (List ℕ)) (line : List ℕ) → text_of (lines ++ line ∷ []) ≡ text_of lines ++ (line ++ 10 ∷ [])
text_push lines line = flat_map-append (λ l. l ++ 10 ∷ []) lines (line ∷ []) ∙ ap (λ t. text_of lines ++ t) (append-nil (line ++ 10 ∷ []))

-- ---- they are the text

-- a text of one line that is still open
one_piece : (text : List ℕ) → IsLine text → AreEndedLinesOf text
one_piece text whole = record {
  whole = All-same IsLine (ended_lines text) [] (ended_only text whole) (All-nil IsLine);
  last = subst IsLine (sym (open_only text whole)) whole;
  joined = ap₂ (λ (ls : List (List ℕ)) (l : List ℕ). text_of ls ++ l) (ended_only text whole) (open_only text whole);
}

-- a line more in front
more_pieces : (line rest : List ℕ) → IsLine line → AreEndedLinesOf rest → AreEndedLinesOf (line ++ 10 ∷ rest)
more_pieces line rest whole are = record {
  whole = All-same IsLine (ended_lines (line ++ 10 ∷ rest)) (line ∷ ended_lines rest) (ended_first line rest whole)
      (All-cons IsLine line (ended_lines rest) whole are.whole);
  last = subst IsLine (sym (open_first line rest whole)) are.last;
  joined = ap₂ (λ (ls : List (List ℕ)) (l : List ℕ). text_of ls ++ l) (ended_first line rest whole) (open_first line rest whole)
      ∙ (regrouped line (ended_lines rest) (open_line rest) ∙ ap (λ t. line ++ 10 ∷ t) are.joined);
}

-- the lines of a text are it, where it has at most so many bytes
ended_within : (most : ℕ) (text : List ℕ) → length text ≤ most → AreEndedLinesOf text
ended_within zero [] fits = one_piece [] (All-nil (λ b. b ≢ 10))
ended_within zero (byte ∷ text) fits = absurd (omega arith)
ended_within (suc most) text fits = elim (first_cut text) [
  | inl one ↦ one_piece text one.0
  | inr cut ↦ subst AreEndedLinesOf (sym cut.2)
      (more_pieces cut.0 cut.1 cut.3 (ended_within most cut.1 (omega (arith, ap length cut.2, length-append cut.0 (10 ∷ cut.1)))))
]

-- the lines of every text are it
pub ended_lines_are : EndedLinesAreTheText
ended_lines_are text = ended_within (length text) text (omega arith)
