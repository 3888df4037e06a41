-- The length of the first line of a text, and the text cut there.
use Rattle.std.proofs.Common.{◌≡◌, ◌≢◌, ℕ, zero, suc, ◌+◌, ◌-◌, ◌<◌, ◌≤◌, Bool, true, false, cond, not, eqb, ltb, List, [], ◌∷◌}
use Rattle.std.proofs.Common.{◌++◌, length, get_or, take, drop, position, unwrap_or, Some, None, refl, sym, ap, ◌∙◌, ◌⊎◌, inl}
use Rattle.std.proofs.Common.{inr, arith, ne_eqb, eq-eqb, length-append, length-drop, length-take}
use Rattle.std.specs.List.{position_or_len}
use Rattle.std.proofs.lemmas.Bool.{ltb-false, eqb-true, eqb-false, false≢true}
use Rattle.std.proofs.lemmas.List.{take_all, get_or-take}
use Rattle.std.proofs.lemmas.List.Elements.{All-nil, All-cons, All-head, All-tail}
use Rattle.std.proofs.lemmas.List.Sums.{prefix_len-le-length, split_at_first, fails_before_first, passes_at_first}
use Rattle.text_parts.specs.Lines.{line_length, IsLine}

-- ---- one byte

-- the bytes of no line
pub line_length-nil : line_length [] ≡ 0
unfolding line_length
line_length-nil = refl

-- a line feed in front ends the first line
pub line_length-feed : (byte : ℕ) (bytes : List ℕ) → eqb byte 10 ≡ true → line_length (byte ∷ bytes) ≡ 0
unfolding line_length
line_length-feed byte bytes feed = ap (λ test. cond (not test) (1 + line_length bytes) 0) feed

-- another byte in front belongs to it
pub line_length-other : (byte : ℕ) (bytes : List ℕ) → eqb byte 10 ≡ false → line_length (byte ∷ bytes) ≡ 1 + line_length bytes
unfolding line_length
line_length-other byte bytes other = ap (λ test. cond (not test) (1 + line_length bytes) 0) other

-- ---- lines

-- a line is as long as its bytes
pub line_length-line : (line : List ℕ) → IsLine line → line_length line ≡ length line
line_length-line [] whole = line_length-nil
line_length-line (byte ∷ line) whole =
    let one : line_length (byte ∷ line) ≡ 1 + line_length line = line_length-other byte line (ne_eqb byte 10 (All-head (λ byte. byte ≢ 10) byte line whole)) in
    omega (arith, one, line_length-line line (All-tail (λ byte. byte ≢ 10) byte line whole))

-- a line feed behind it ends the first line
pub line_length-ended : (line rest : List ℕ) → IsLine line → line_length (line ++ 10 ∷ rest) ≡ length line
line_length-ended [] rest whole = line_length-feed 10 rest refl
line_length-ended (byte ∷ line) rest whole =
    let one : line_length (byte ∷ (line ++ 10 ∷ rest)) ≡ 1 + line_length (line ++ 10 ∷ rest) =
    line_length-other byte (line ++ 10 ∷ rest) (ne_eqb byte 10 (All-head (λ byte. byte ≢ 10) byte line whole)) in
    omega (arith, one, line_length-ended line rest (All-tail (λ byte. byte ≢ 10) byte line whole))

-- ---- a text and its first line

-- it is no longer than all the bytes
pub line_length_within : (bytes : List ℕ) → line_length bytes ≤ length bytes
unfolding line_length
line_length_within bytes = prefix_len-le-length (λ byte. not (eqb byte 10)) bytes

-- it is found by the place of the first line feed
pub line_length_position : (bytes : List ℕ) → unwrap_or (position (λ byte. eqb byte 10) bytes) (length bytes) ≡ line_length bytes
unfolding line_length
line_length_position bytes = by (ltb (position_or_len (λ byte. eqb byte 10) bytes) (length bytes)) refl
  where
    by : (found : Bool) → ltb (position_or_len (λ byte. eqb byte 10) bytes) (length bytes) ≡ found
        → unwrap_or (position (λ byte. eqb byte 10) bytes) (length bytes) ≡ position_or_len (λ byte. eqb byte 10) bytes
    by true e = ap (λ test. unwrap_or (cond test (Some (position_or_len (λ byte. eqb byte 10) bytes)) None) (length bytes)) e
    by false e =
        ap (λ test. unwrap_or (cond test (Some (position_or_len (λ byte. eqb byte 10) bytes)) None) (length bytes)) e
        ∙ omega (arith, ltb-false (position_or_len (λ byte. eqb byte 10) bytes) (length bytes) e, prefix_len-le-length (λ byte. not (eqb byte 10)) bytes)

-- a part in front that has no line feed needn't be looked at again
pub line_length_later : (bytes : List ℕ) (from : ℕ) → from ≤ line_length bytes → line_length bytes ≡ from + line_length (drop from bytes)
line_length_later bytes zero known = omega arith
line_length_later [] (suc from) known = absurd (omega (arith, line_length-nil))
line_length_later (byte ∷ bytes) (suc from) known = by (eqb byte 10) refl (line_length_later bytes from)
  where
    by : (feed : Bool) → eqb byte 10 ≡ feed
        → (from ≤ line_length bytes → line_length bytes ≡ from + line_length (drop from bytes))
        → line_length (byte ∷ bytes) ≡ suc from + line_length (drop from bytes)
    by true e later = absurd (omega (arith, line_length-feed byte bytes e))
    by false e later =
        let one : line_length (byte ∷ bytes) ≡ 1 + line_length bytes = line_length-other byte bytes e in
        omega (arith, later (omega arith))

-- the same, as the rest of the bytes stands in the code
pub line_length_rest : (bytes : List ℕ) (from : ℕ) → from ≤ line_length bytes →
    line_length bytes ≡ from + line_length (take (length bytes - from) (drop from bytes))
line_length_rest bytes from known =
    line_length_later bytes from known
    ∙ ap (λ rest. from + line_length rest) (sym (take_all (length bytes - from) (drop from bytes) (omega (arith, length-drop from bytes))))

-- it is no shorter where more bytes stand behind
pub line_length_grows : (bytes more : List ℕ) → line_length bytes ≤ line_length (bytes ++ more)
line_length_grows [] more = omega (arith, line_length-nil)
line_length_grows (byte ∷ bytes) more = by (eqb byte 10) refl (line_length_grows bytes more)
  where
    by : (feed : Bool) → eqb byte 10 ≡ feed → line_length bytes ≤ line_length (bytes ++ more)
        → line_length (byte ∷ bytes) ≤ line_length (byte ∷ (bytes ++ more))
    by true e grows = omega (arith, line_length-feed byte bytes e)
    by false e grows = omega (arith, line_length-other byte bytes e, line_length-other byte (bytes ++ more) e)

-- the first line has no line feed
pub first_line_whole : (bytes : List ℕ) → IsLine (take (line_length bytes) bytes)
unfolding line_length
first_line_whole bytes k d within feed =
    let place = position_or_len (λ byte. eqb byte 10) bytes in
    let before : k < place = omega (arith, length-take place bytes) in
    let is_feed : eqb (get_or bytes k d) 10 ≡ true = eq-eqb (get_or bytes k d) 10 (sym (get_or-take place bytes k d before) ∙ feed) in
    false≢true (sym (fails_before_first (λ byte. eqb byte 10) bytes k d before) ∙ is_feed)

-- bytes with a line feed are the first line, the feed and the others
pub first_line_cut : (bytes : List ℕ) → line_length bytes < length bytes → bytes ≡ take (line_length bytes) bytes ++ 10 ∷ drop (line_length bytes + 1) bytes
unfolding line_length
first_line_cut bytes within =
    split_at_first (λ byte. eqb byte 10) bytes 0 within
    ∙ ap (λ feed. take (line_length bytes) bytes ++ feed ∷ drop (line_length bytes + 1) bytes)
    (eqb-true (get_or bytes (position_or_len (λ byte. eqb byte 10) bytes) 0) 10 (passes_at_first (λ byte. eqb byte 10) bytes 0 within))

-- ---- two kinds of texts

-- a text that is one line
abbrev pub IsOne : List ℕ → Type 0
IsOne text = IsLine text × (line_length text ≡ length text)

-- a text that is cut at a line feed
abbrev pub IsCutText : List ℕ → Type 0
IsCutText text = (line rest : List ℕ) × (text ≡ line ++ 10 ∷ rest) × IsLine line × (line_length text ≡ length line)

-- each text is one of these
pub first_cut : (text : List ℕ) → IsOne text ⊎ IsCutText text
first_cut [] = inl (All-nil (λ b. b ≢ 10), line_length-nil)
first_cut (byte ∷ text) = by (eqb byte 10) refl (first_cut text)
  where
    by : (feeds : Bool) → eqb byte 10 ≡ feeds → IsOne text ⊎ IsCutText text → IsOne (byte ∷ text) ⊎ IsCutText (byte ∷ text)
    by true is rest = inr ([], text, ap (λ b. b ∷ text) (eqb-true byte 10 is), All-nil (λ b. b ≢ 10), line_length-feed byte text is)
    by false is (inl one) = inl (All-cons (λ b. b ≢ 10) byte text (eqb-false byte 10 is) one.0, omega (arith, line_length-other byte text is, one.1))
    by false is (inr cut) =
        inr (
          byte ∷ cut.0,
          cut.1,
          ap (λ t. byte ∷ t) cut.2,
          All-cons (λ b. b ≢ 10) byte cut.0 (eqb-false byte 10 is) cut.3,
          omega (
            arith,
            line_length-other byte text is,
            cut.4,
          ),
        )

-- a text whose first line is all of it has no line feed
pub one_line : (text : List ℕ) → line_length text ≡ length text → IsLine text
one_line text is = elim (first_cut text) [ inl one ↦ one.0 | inr cut ↦ absurd (omega (arith, cut.4, is, ap length cut.2, length-append cut.0 (10 ∷ cut.1))) ]
