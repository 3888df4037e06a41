-- The signs that the reader counts are those outside quoted labels.
use Rattle.std.proofs.Common.{◌≡◌, ℕ, ◌+◌, ◌≤◌, ◌&&◌, Bool, true, false, cond, List, [], ◌∷◌, ◌++◌, Some, refl, sym, ◌∙◌, ap, zero-add, arith}
use Rattle.std.specs.List.{count_by}
use Rattle.std.proofs.lemmas.List.{length_push}
use Rattle.std.proofs.lemmas.List.Sums.{sum_by-cons}
use Rattle.std.proofs.lemmas.Bool.{ne_eqb}
use Rattle.std.proofs.lemmas.Option.{option_and_then_some}
use Rattle.path_syntax.specs.Expression.{Expression}
use Rattle.path_syntax.specs.Grammar.{is_blank}
use Rattle.path_syntax.specs.Faults.{outside_quotes, behind_quote, behind_backslash, is_sign, signs}
use Rattle.path_syntax.specs.Reading.{FrameValue, ModeValue, Operand, BareLabel, QuotedLabel, Escape, Primary, Element, StateValue, initial, step, element_of, is_outside, name_length}
use Rattle.path_syntax.proofs.Steps.{Leads, OperandBlank, OperandOpen, OperandCaret, OperandQuote, OperandBare, BareMore, QuotedMore, QuotedBackslash, QuotedEnd, EscapeQuote, EscapeBackslash, PrimaryBlank, PrimaryStar, PrimaryPlus, PrimaryOpt, ElementBlank, ElementSlash, ElementBar, ElementClose, step_leads, run, bare_no_quote}
use Rattle.path_syntax.proofs.Completeness.{primary_ends}

-- one for a sign
abbrev one_if : Bool → ℕ
one_if b = cond b 1 0

-- the signs of the rest, from where the reader stands
abbrev signs_from : ModeValue → List ℕ → ℕ
signs_from (Operand back) bytes = signs bytes
signs_from (BareLabel name back) bytes = signs bytes
signs_from (QuotedLabel name back) bytes = count_by is_sign (behind_quote bytes)
signs_from (Escape name back) bytes = count_by is_sign (behind_backslash bytes)
signs_from (Primary e) bytes = signs bytes
signs_from (Element e) bytes = signs bytes

signs_none : (mode : ModeValue) → signs_from mode [] ≡ 0
signs_none (Operand back) = refl
signs_none (BareLabel name back) = refl
signs_none (QuotedLabel name back) = refl
signs_none (Escape name back) = refl
signs_none (Primary e) = refl
signs_none (Element e) = refl

counted : (byte : ℕ) (bytes : List ℕ) → count_by is_sign (byte ∷ bytes) ≡ one_if (is_sign byte) + count_by is_sign bytes
counted byte bytes = sum_by-cons (λ x. one_if (is_sign x)) byte bytes

outside : (byte : ℕ) (bytes : List ℕ) → (byte ≡ 34 → ⊥) → signs (byte ∷ bytes) ≡ one_if (is_sign byte) + signs bytes
outside byte bytes no_quote = rw (ne_eqb byte 34 no_quote) (counted byte (outside_quotes bytes))

-- behind an element the reader stands outside quotes
behind : (mode : ModeValue) (e : Expression) → element_of mode ≡ Some e → (byte : ℕ) (bytes : List ℕ) → (byte ≡ 34 → ⊥) →
    signs_from mode (byte ∷ bytes) ≡ one_if (is_outside mode && is_sign byte) + signs bytes
behind (Operand back) e ends byte bytes no_quote = absurd cc
behind (BareLabel name back) e ends byte bytes no_quote = outside byte bytes no_quote
behind (QuotedLabel name back) e ends byte bytes no_quote = absurd cc
behind (Escape name back) e ends byte bytes no_quote = absurd cc
behind (Primary f) e ends byte bytes no_quote = outside byte bytes no_quote
behind (Element f) e ends byte bytes no_quote = outside byte bytes no_quote

blank_no_quote : (byte : ℕ) → is_blank byte ≡ true → byte ≡ 34 → ⊥
blank_no_quote byte blank e = let h : true ≡ false = sym blank ∙ ap is_blank e in cc

within : (byte : ℕ) (bytes : List ℕ) → (byte ≡ 34 → ⊥) → (byte ≡ 92 → ⊥) →
    count_by is_sign (behind_quote (byte ∷ bytes)) ≡ 0 + count_by is_sign (behind_quote bytes)
within byte bytes quote backslash = rw (ne_eqb byte 34 quote, ne_eqb byte 92 backslash) (sym (zero-add _))

signs_lead : {inverses : Bool} {outer : List FrameValue} {frame : FrameValue} {mode : ModeValue} {byte : ℕ} {after : StateValue} → Leads inverses outer frame mode byte after →
    (bytes : List ℕ) → signs_from mode (byte ∷ bytes) ≡ one_if (is_outside mode && is_sign byte) + signs_from after.mode bytes
signs_lead (OperandBlank outer frame back byte blank) bytes = outside byte bytes (blank_no_quote byte blank)
signs_lead (OperandOpen outer frame) bytes = counted 40 (outside_quotes bytes)
signs_lead (OperandCaret outer frame taken) bytes = counted 94 (outside_quotes bytes)
signs_lead (OperandQuote outer frame back) bytes = sym (zero-add _)
signs_lead (OperandBare outer frame back byte bare) bytes = outside byte bytes (bare_no_quote byte 34 refl bare)
signs_lead (BareMore outer frame name back byte bare) bytes = outside byte bytes (bare_no_quote byte 34 refl bare)
signs_lead (QuotedMore outer frame name back byte named quote backslash) bytes = within byte bytes quote backslash
signs_lead (QuotedBackslash outer frame name back) bytes = sym (zero-add _)
signs_lead (QuotedEnd outer frame first name back) bytes = sym (zero-add _)
signs_lead (EscapeQuote outer frame name back) bytes = sym (zero-add _)
signs_lead (EscapeBackslash outer frame name back) bytes = sym (zero-add _)
signs_lead (PrimaryBlank outer frame mode e byte is blank) bytes = behind mode e (primary_ends mode e is) byte bytes (blank_no_quote byte blank)
signs_lead (PrimaryStar outer frame mode e is) bytes = behind mode e (primary_ends mode e is) 42 bytes (λ h. omega arith)
signs_lead (PrimaryPlus outer frame mode e is) bytes = behind mode e (primary_ends mode e is) 43 bytes (λ h. omega arith)
signs_lead (PrimaryOpt outer frame mode e is) bytes = behind mode e (primary_ends mode e is) 63 bytes (λ h. omega arith)
signs_lead (ElementBlank outer frame e byte blank) bytes = outside byte bytes (blank_no_quote byte blank)
signs_lead (ElementSlash outer frame mode e ends) bytes = behind mode e ends 47 bytes (λ h. omega arith)
signs_lead (ElementBar outer frame mode e ends) bytes = behind mode e ends 124 bytes (λ h. omega arith)
signs_lead (ElementClose other outer frame mode e ends) bytes = behind mode e ends 41 bytes (λ h. omega arith)

-- the signs of what the reader goes through, and those of the rest
signs_run : (inverses : Bool) (bytes rest : List ℕ) (state after : StateValue) → run inverses bytes state ≡ Some after →
    signs_from state.mode (bytes ++ rest) ≡ signs_from state.mode bytes + signs_from after.mode rest
signs_run inverses [] rest state after e =
    let same : state ≡ after = cc in
    ap (λ s. signs_from s.mode rest) same ∙ sym (ap (λ n. n + signs_from after.mode rest) (signs_none state.mode) ∙ zero-add _)
signs_run inverses (byte ∷ bytes) rest state after e =
    option_and_then_some {P = signs_from state.mode (byte ∷ bytes ++ rest) ≡ signs_from state.mode (byte ∷ bytes) + signs_from after.mode rest}
    (run inverses bytes) (step inverses state byte) after e (λ middle first more.
    let l = step_leads inverses state byte middle first in
    let whole : signs_from state.mode (byte ∷ (bytes ++ rest)) ≡ one_if (is_outside state.mode && is_sign byte) + signs_from middle.mode (bytes ++ rest) =
    signs_lead l (bytes ++ rest) in
    let part : signs_from state.mode (byte ∷ bytes) ≡ one_if (is_outside state.mode && is_sign byte) + signs_from middle.mode bytes = signs_lead l bytes in
    let again : signs_from middle.mode (bytes ++ rest) ≡ signs_from middle.mode bytes + signs_from after.mode rest = signs_run inverses bytes rest middle after more in
    omega arith)

-- one more byte
pub signs_push : (inverses : Bool) (front : List ℕ) (byte : ℕ) (state after : StateValue) → run inverses front initial ≡ Some state → step inverses state byte ≡ Some after →
    signs (front ++ byte ∷ []) ≡ signs front + one_if (is_outside state.mode && is_sign byte)
signs_push inverses front byte state after ran e =
    let whole : signs (front ++ byte ∷ []) ≡ signs front + signs_from state.mode (byte ∷ []) = signs_run inverses front (byte ∷ []) initial state ran in
    let last : signs_from state.mode (byte ∷ []) ≡ one_if (is_outside state.mode && is_sign byte) + signs_from after.mode [] =
    signs_lead (step_leads inverses state byte after e) [] in
    let none : signs_from after.mode [] ≡ 0 = signs_none after.mode in
    omega arith

-- a front has no more signs
pub signs_grow : (inverses : Bool) (front more : List ℕ) (state : StateValue) → run inverses front initial ≡ Some state → signs front ≤ signs (front ++ more)
signs_grow inverses front more state ran =
    let whole : signs (front ++ more) ≡ signs front + signs_from state.mode more = signs_run inverses front more initial state ran in
    omega arith

length_lead : {inverses : Bool} {outer : List FrameValue} {frame : FrameValue} {mode : ModeValue} {byte : ℕ} {after : StateValue} → Leads inverses outer frame mode byte after →
    name_length after.mode ≤ name_length mode + 1
length_lead (OperandBlank outer frame back byte blank) = omega arith
length_lead (OperandOpen outer frame) = omega arith
length_lead (OperandCaret outer frame taken) = omega arith
length_lead (OperandQuote outer frame back) = omega arith
length_lead (OperandBare outer frame back byte bare) = omega arith
length_lead (BareMore outer frame name back byte bare) = omega (arith, length_push name byte)
length_lead (QuotedMore outer frame name back byte named quote backslash) = omega (arith, length_push name byte)
length_lead (QuotedBackslash outer frame name back) = omega arith
length_lead (QuotedEnd outer frame first name back) = omega arith
length_lead (EscapeQuote outer frame name back) = omega (arith, length_push name 34)
length_lead (EscapeBackslash outer frame name back) = omega (arith, length_push name 92)
length_lead (PrimaryBlank outer frame mode e byte is blank) = omega arith
length_lead (PrimaryStar outer frame mode e is) = omega arith
length_lead (PrimaryPlus outer frame mode e is) = omega arith
length_lead (PrimaryOpt outer frame mode e is) = omega arith
length_lead (ElementBlank outer frame e byte blank) = omega arith
length_lead (ElementSlash outer frame mode e ends) = omega arith
length_lead (ElementBar outer frame mode e ends) = omega arith
length_lead (ElementClose other outer frame mode e ends) = omega arith

-- a name grows by a byte at most
pub name_grows : (inverses : Bool) (state : StateValue) (byte : ℕ) (after : StateValue) → step inverses state byte ≡ Some after → name_length after.mode ≤ name_length state.mode + 1
name_grows inverses state byte after e = length_lead (step_leads inverses state byte after e)
