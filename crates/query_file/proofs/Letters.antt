-- A letter within quotes is its bytes in UTF-8, behind a backslash where it is a quote or a backslash.
use Rattle.std.proofs.Common.{◌≡◌, ℕ, ◌<◌, ◌≤◌, Bool, true, false, cond, ◌||◌, ◌==◌, List, [], ◌∷◌, ◌++◌, inl, inr, All, length, get_or, refl, sym, ap, subst, ◌∙◌, arith}
use Rattle.std.specs.Prelude.{encode_utf8}
use Rattle.std.proofs.lemmas.Bool.{cases_lt, eqb-true}
use Rattle.std.proofs.lemmas.List.{append-nil}
use Rattle.std.proofs.lemmas.List.Concat.{flat_map-append}
use Rattle.std.proofs.lemmas.List.Elements.{All-head, All-tail, All-from_get_or}
use Rattle.std.proofs.lemmas.Str.{inside_one}
use Rattle.path_syntax.specs.Grammar.{escaped, quoted}

-- a quote or a backslash
abbrev pub is_sign : ℕ → Bool
is_sign byte = byte == 34 || byte == 92

abbrev IsNoSign : ℕ → Type 0
IsNoSign byte = is_sign byte ≡ false

kept : (bytes : List ℕ) → All IsNoSign bytes → quoted bytes ≡ bytes
kept [] none = refl
kept (byte ∷ bytes) none =
    ap (λ t. cond t (92 ∷ byte ∷ []) (byte ∷ []) ++ quoted bytes) (All-head IsNoSign byte bytes none)
    ∙ ap (λ (more : List ℕ). byte ∷ more) (kept bytes (All-tail IsNoSign byte bytes none))

differs : (byte sign : ℕ) → (byte ≡ sign → ⊥) → (byte == sign) ≡ false
differs byte sign apart = by (byte == sign) refl
  where
    by : (test : Bool) → (byte == sign) ≡ test → (byte == sign) ≡ false
    by false is = is
    by true is = absurd (apart (eqb-true byte sign is))

pub no_sign : (byte : ℕ) → (byte ≡ 34 → ⊥) → (byte ≡ 92 → ⊥) → is_sign byte ≡ false
no_sign byte quote backslash = ap (λ t. t || (byte == 92)) (differs byte 34 quote) ∙ differs byte 92 backslash

high_is_none : (byte : ℕ) → 128 ≤ byte → IsNoSign byte
high_is_none byte high =
    no_sign byte (λ same. absurd (omega (arith, same, high))) (λ same. absurd (omega (arith, same, high)))

no_sign_inside : (letter : ℕ) → IsNoSign letter → (place : ℕ) → place < length (encode_utf8 letter) → IsNoSign (get_or (encode_utf8 letter) place 0)
no_sign_inside letter none place below = elim (cases_lt (get_or (encode_utf8 letter) place 0) 128) [
  | inl low ↦ subst IsNoSign (inside_one letter [] (encode_utf8 letter) place (sym (append-nil (encode_utf8 letter))) below low) none
  | inr high ↦ high_is_none (get_or (encode_utf8 letter) place 0) high
]

-- another letter
pub letter_kept : (letter : ℕ) → is_sign letter ≡ false → quoted (encode_utf8 letter) ≡ encode_utf8 letter
letter_kept letter none =
    kept (encode_utf8 letter) (All-from_get_or IsNoSign (encode_utf8 letter) 0 (no_sign_inside letter none))

-- the letters of a text, one after another
pub next_letter : (letter : ℕ) (rest : List ℕ) → quoted (encode_utf8 letter ++ rest) ≡ quoted (encode_utf8 letter) ++ quoted rest
next_letter letter rest = flat_map-append escaped (encode_utf8 letter) rest
