-- Where a text is cut into lines.
use Rattle.std.proofs.Common.{◌≡◌, ◌≢◌, ℕ, suc, ◌+◌, ◌-◌, ◌<◌, true, false, cond, eqb, List, [], ◌∷◌, ◌++◌, length, get_or, take}
use Rattle.std.proofs.Common.{drop, Some, position, refl, sym, ap, ◌∙◌, arith, ne_eqb, eq-eqb, add-one, length-drop, length-take}
use Rattle.std.proofs.Common.{append_assoc}
use Rattle.std.specs.List.{onto_first, All}
use Rattle.std.proofs.lemmas.Bool.{eqb-true, false≢true}
use Rattle.std.proofs.lemmas.List.{take_all, nil_from_length, get_or-take}
use Rattle.std.proofs.lemmas.List.Elements.{All-head, All-tail}
use Rattle.std.proofs.lemmas.List.Quantifiers.{position-Some}
use Rattle.std.proofs.Math.Seq.{split_at}
use Rattle.text_parts.specs.Lines.{raw_lines, text_of, IsLine}

-- ---- one byte

-- the text of no byte has no line
pub raw_lines_nil : raw_lines [] ≡ []
unfolding raw_lines
raw_lines_nil = refl

-- a line feed in front ends an empty line
pub raw_lines_cons_feed : (byte : ℕ) (text : List ℕ) → eqb byte 10 ≡ true → raw_lines (byte ∷ text) ≡ [] ∷ raw_lines text
unfolding raw_lines
raw_lines_cons_feed byte text e = ap (λ b. cond b ([] ∷ raw_lines text) (onto_first byte (raw_lines text))) e

-- another byte in front belongs to the first line
pub raw_lines_cons_other : (byte : ℕ) (text : List ℕ) → eqb byte 10 ≡ false → raw_lines (byte ∷ text) ≡ onto_first byte (raw_lines text)
unfolding raw_lines
raw_lines_cons_other byte text e = ap (λ b. cond b ([] ∷ raw_lines text) (onto_first byte (raw_lines text))) e

-- ---- lines in front

-- a line and its line feed in front, and then the lines of the rest
pub raw_lines_first : (line rest : List ℕ) → IsLine line → raw_lines (line ++ 10 ∷ rest) ≡ line ∷ raw_lines rest
raw_lines_first [] rest whole = raw_lines_cons_feed 10 rest refl
raw_lines_first (byte ∷ line) rest whole =
    raw_lines_cons_other byte (line ++ 10 ∷ rest) (ne_eqb byte 10 (All-head (λ b. b ≢ 10) byte line whole))
    ∙ ap (onto_first byte) (raw_lines_first line rest (All-tail (λ b. b ≢ 10) byte line whole))

-- a line without a line feed, if it has a byte, is one line
pub raw_lines_only : (line : List ℕ) → IsLine line → 0 < length line → raw_lines line ≡ line ∷ []
raw_lines_only [] whole some = absurd (omega arith)
raw_lines_only (byte ∷ []) whole some =
    raw_lines_cons_other byte [] (ne_eqb byte 10 (All-head (λ b. b ≢ 10) byte [] whole)) ∙ ap (onto_first byte) raw_lines_nil
raw_lines_only (byte ∷ next ∷ line) whole some =
    raw_lines_cons_other byte (next ∷ line) (ne_eqb byte 10 (All-head (λ b. b ≢ 10) byte (next ∷ line) whole))
    ∙ ap (onto_first byte) (raw_lines_only (next ∷ line) (All-tail (λ b. b ≢ 10) byte (next ∷ line) whole) (omega arith))

-- a line more in front of the text of others
pub regrouped : (line : List ℕ) (lines : List (List ℕ)) (rest : List ℕ) → text_of (line ∷ lines) ++ rest ≡ line ++ 10 ∷ (text_of lines ++ rest)
regrouped line lines rest = append_assoc (line ++ 10 ∷ []) (text_of lines) rest ∙ append_assoc line (10 ∷ []) (text_of lines ++ rest)

-- lines and their line feeds in front, and then the lines of the rest
pub raw_lines_many : (lines : List (List ℕ)) (rest : List ℕ) → All IsLine lines → raw_lines (text_of lines ++ rest) ≡ lines ++ raw_lines rest
raw_lines_many [] rest whole = refl
raw_lines_many (line ∷ lines) rest whole =
    ap raw_lines (regrouped line lines rest)
    ∙ (raw_lines_first line (text_of lines ++ rest) (All-head IsLine line lines whole)
    ∙ ap (λ ls. line ∷ ls) (raw_lines_many lines rest (All-tail IsLine line lines whole)))

-- ---- the place of the first line feed

-- the part of a text from a place to its end
rest_at : (text : List ℕ) (place : ℕ) → take (length text - place) (drop place text) ≡ drop place text
rest_at text place = take_all (length text - place) (drop place text) (omega (arith, length-drop place text))

-- a text with a line feed is the line before the first one, it, and what stands after it
pub cut_at : (text : List ℕ) (end : ℕ) → position (λ byte. eqb byte 10) text ≡ Some end →
    text ≡ take end text ++ 10 ∷ take (length text - (end + 1)) (drop (end + 1) text)
cut_at text end e =
    let p = position-Some (λ byte. eqb byte 10) text end 0 e in
    let byte : get_or text end 0 ≡ 10 = eqb-true (get_or text end 0) 10 p.1 in
    let rest : take (length text - (end + 1)) (drop (end + 1) text) ≡ drop (suc end) text = rw (rest_at text (end + 1), add-one) refl in
    split_at text end 0 p.0 ∙ ap (λ b. take end text ++ b ∷ drop (suc end) text) byte ∙ ap (λ r. take end text ++ 10 ∷ r) (sym rest)

-- what stands before the first line feed is a line
pub line_at : (text : List ℕ) (end : ℕ) → position (λ byte. eqb byte 10) text ≡ Some end → IsLine (take end text)
line_at text end e k d below feed =
    let p = position-Some (λ byte. eqb byte 10) text end d e in
    let before : k < end = omega (arith, length-take end text) in
    let is_feed : eqb (get_or text k d) 10 ≡ true = eq-eqb (get_or text k d) 10 (sym (get_or-take end text k d before) ∙ feed) in
    false≢true (sym (p.2 k before) ∙ is_feed)

-- such a text has that line, and the lines of what stands after it
pub raw_lines_at : (text : List ℕ) (end : ℕ) → position (λ byte. eqb byte 10) text ≡ Some end →
    raw_lines text ≡ take end text ∷ raw_lines (take (length text - (end + 1)) (drop (end + 1) text))
raw_lines_at text end e =
    ap raw_lines (cut_at text end e)
    ∙ raw_lines_first (take end text) (take (length text - (end + 1)) (drop (end + 1) text)) (line_at text end e)

-- nothing of a text stands after its end
pub none_past : (text : List ℕ) → take (length text - length text) (drop (length text) text) ≡ []
none_past text = nil_from_length _ (omega (arith, length-take (length text - length text) (drop (length text) text)))
