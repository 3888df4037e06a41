-- What the kind of a byte says of it.
use Rattle.std.proofs.Common.{◌≡◌, ℕ, ◌==◌, true, false, refl, sym, subst, ⊎_elim}
use Rattle.std.proofs.lemmas.Bool.{cond_both, eqb-true, eqb-false, or_cases, and_parts}
use Rattle.rpq_base.specs.Names.{is_name_byte}
use Rattle.path_syntax.specs.declared.byte_kind.ByteKind.{ByteKind}
use Rattle.path_syntax.specs.declared.byte_kind.ByteKind.TheVariants.{Blank, Bare, Quote, Backslash, Slash, Bar, Asterisk, PlusSign, QuestionMark, Open, Close, Caret, Reserved, Strange}
use Rattle.path_syntax.specs.Grammar.{is_blank, is_bare_byte}
use Rattle.path_syntax.specs.Reading.{kind_of, kind_of_sign}

-- what each kind says of its bytes
abbrev pub Means : ByteKind → ℕ → Type 0
Means Blank byte = is_blank byte ≡ true
Means Bare byte = is_bare_byte byte ≡ true
Means Quote byte = byte ≡ 34
Means Backslash byte = byte ≡ 92
Means Slash byte = byte ≡ 47
Means Bar byte = byte ≡ 124
Means Asterisk byte = byte ≡ 42
Means PlusSign byte = byte ≡ 43
Means QuestionMark byte = byte ≡ 63
Means Open byte = byte ≡ 40
Means Close byte = byte ≡ 41
Means Caret byte = byte ≡ 94
Means Reserved byte = (is_name_byte byte ≡ true) × (byte ≡ 34 → ⊥) × (byte ≡ 92 → ⊥)
Means Strange byte = is_name_byte byte ≡ false

sign_means : (byte : ℕ) → is_name_byte byte ≡ true → Means (kind_of_sign byte) byte
sign_means byte named =
    let P : ByteKind → Type 0 = λ kind. Means kind byte in
    cond_both (byte == 34) Quote _ P (eqb-true byte 34) (λ not_quote.
    cond_both (byte == 92) Backslash _ P (eqb-true byte 92) (λ not_backslash.
    cond_both (byte == 47) Slash _ P (eqb-true byte 47) (λ _.
    cond_both (byte == 124) Bar _ P (eqb-true byte 124) (λ _.
    cond_both (byte == 42) Asterisk _ P (eqb-true byte 42) (λ _.
    cond_both (byte == 43) PlusSign _ P (eqb-true byte 43) (λ _.
    cond_both (byte == 63) QuestionMark _ P (eqb-true byte 63) (λ _.
    cond_both (byte == 40) Open _ P (eqb-true byte 40) (λ _.
    cond_both (byte == 41) Close _ P (eqb-true byte 41) (λ _.
    cond_both (byte == 94) Caret Reserved P (eqb-true byte 94) (λ _.
    (named, eqb-false byte 34 not_quote, eqb-false byte 92 not_backslash)))))))))))

pub kind_means : (byte : ℕ) → Means (kind_of byte) byte
unfolding kind_of
kind_means byte =
    let P : ByteKind → Type 0 = λ kind. Means kind byte in
    cond_both (is_bare_byte byte) Bare _ P (λ bare. bare) (λ _.
    cond_both (is_blank byte) Blank _ P (λ blank. blank) (λ _.
    cond_both (is_name_byte byte) (kind_of_sign byte) Strange P (sign_means byte) (λ strange. strange)))

pub kind_of_bare : (byte : ℕ) → is_bare_byte byte ≡ true → kind_of byte ≡ Bare
unfolding kind_of
kind_of_bare byte bare = rw bare refl

pub is_blank_cases : (byte : ℕ) → is_blank byte ≡ true → (P : ℕ → Type 0) → P 32 → P 9 → P byte
is_blank_cases byte blank P at_space at_tab =
    ⊎_elim (λ e. subst P (sym (eqb-true byte 32 e)) at_space) (λ e. subst P (sym (eqb-true byte 9 e)) at_tab)
    (or_cases (byte == 32) (byte == 9) blank)

pub kind_of_blank : (byte : ℕ) → is_blank byte ≡ true → kind_of byte ≡ Blank
unfolding kind_of
kind_of_blank byte blank = is_blank_cases byte blank (λ b. kind_of b ≡ Blank) refl refl

-- a blank may not stand in a name
pub blank_is_strange : (byte : ℕ) → is_blank byte ≡ true → is_name_byte byte ≡ false
blank_is_strange byte blank = is_blank_cases byte blank (λ b. is_name_byte b ≡ false) refl refl

-- a bare byte may stand in a name, and is no quote and no backslash
pub bare_is_named : (byte : ℕ) → is_bare_byte byte ≡ true → is_name_byte byte ≡ true
bare_is_named byte bare = (and_parts (is_name_byte byte) _ bare).0
