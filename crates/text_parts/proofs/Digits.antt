-- What a text of digits says as its digits are read.
use Rattle.std.proofs.Common.{◌≡◌, ℕ, zero, suc, ◌+◌, ◌-◌, ◌*◌, ◌/◌, ◌%◌, ◌^◌, ◌<◌, ◌≤◌, true, false, cond, not, ◌&&◌, leb, Some}
use Rattle.std.proofs.Common.{None, ap₂, ne_eqb, length-append, List, [], ◌∷◌, ◌++◌, length, get_or, take, drop, refl, sym, ap}
use Rattle.std.proofs.Common.{◌∙◌, arith, inl, inr, take-append-drop}
use Rattle.std.specs.Char.{IsAsciiDigit, is_ascii_digit}
use Rattle.std.specs.Fmt.{decimal}
use Rattle.std.specs.List.{fold}
use Rattle.std.proofs.lemmas.Fmt.{decimal_by_steps, decimal_digit, first_decimal}
use Rattle.std.proofs.lemmas.List.Elements.{All-nil, All-cons, All-push}
use Rattle.std.proofs.lemmas.List.Sums.{fold-append, fold_more, fold_push, list_all-from_AllPass, AllPass-from_list_all}
use Rattle.std.proofs.lemmas.Bool.{and_from, and_parts, cases_Bool, le-leb, lt-leb}
use Rattle.std.proofs.lemmas.Bool.Decides.{nat_tests}
use Rattle.text_parts.specs.Numbers.{number_of, number_within, IsDigitText, is_digit_text, DecimalIsRead}

-- the test passes each digit text
pub digit_text_passes : (text : List ℕ) → IsDigitText text → is_digit_text text ≡ true
digit_text_passes [] h = absurd (h.some refl)
digit_text_passes (digit ∷ text) h =
    and_from _ _ (ap not (ne_eqb (length (digit ∷ text)) 0 (λ z. omega arith))) (list_all-from_AllPass is_ascii_digit (digit ∷ text)
    (λ k d l. passes (get_or (digit ∷ text) k d) (h.digits k d l)))
  where
    passes : (byte : ℕ) → IsAsciiDigit byte → is_ascii_digit byte ≡ true
    passes byte h = grind (arith, nat_tests)

-- what passes the test is a digit text
pub digit_text_found : (text : List ℕ) → is_digit_text text ≡ true → IsDigitText text
digit_text_found [] e = absurd cc
digit_text_found (digit ∷ text) e =
    record {
      some = λ none. absurd cc;
      digits = λ k d l. found (get_or (digit ∷ text) k d) (AllPass-from_list_all is_ascii_digit (digit ∷ text) (and_parts _ _ e).1 k d l);
    }
  where
    found : (byte : ℕ) → is_ascii_digit byte ≡ true → IsAsciiDigit byte
    found byte e = grind (arith, nat_tests)

-- what is no digit text doesn't pass
pub no_digit_text : (text : List ℕ) → ¬ (IsDigitText text) → is_digit_text text ≡ false
no_digit_text text h = elim (cases_Bool (is_digit_text text)) [ inl e ↦ absurd (h (digit_text_found text e)) | inr e ↦ e ]

-- a number that is written and fits
pub within_fits : (text : List ℕ) (most : ℕ) → IsDigitText text → number_of text ≤ most → number_within most text ≡ Some (number_of text)
unfolding number_within
within_fits text most h fits = ap (λ yes. cond yes (Some (number_of text)) None) (and_from _ _ (digit_text_passes text h) (le-leb (number_of text) most fits))

-- a number that is written and doesn't fit
pub within_larger : (text : List ℕ) (most : ℕ) → IsDigitText text → most < number_of text → number_within most text ≡ None
unfolding number_within
within_larger text most h larger = ap₂ (λ digits fits. cond (digits && fits) (Some (number_of text)) None) (digit_text_passes text h)
    (lt-leb (number_of text) most larger)

-- a text that writes no number
pub within_other : (text : List ℕ) (most : ℕ) → is_digit_text text ≡ false → number_within most text ≡ None
unfolding number_within
within_other text most e = ap (λ digits. cond (digits && leb (number_of text) most) (Some (number_of text)) None) e

-- the number is no smaller after more digits
grows : (number : ℕ) (text : List ℕ) → number ≤ fold (λ number digit. 10 * number + (digit - 48)) number text
grows number [] = omega arith
grows number (digit ∷ text) = omega (arith, grows (10 * number + (digit - 48)) text)

-- what a part from the front on writes is at most what the whole writes
number_of_front : (text : List ℕ) (i : ℕ) → number_of (take i text) ≤ number_of text
number_of_front text i =
    let next : ℕ → ℕ → ℕ = λ number digit. 10 * number + (digit - 48) in
    let joined : number_of text ≡ fold next (number_of (take i text)) (drop i text) = ap number_of (sym (take-append-drop i text))
    ∙ fold-append next 0 (take i text) (drop i text) in
    omega (arith, joined, grows (number_of (take i text)) (drop i text))

-- where one digit more passes a limit, the whole number does
pub number_of_above : (text : List ℕ) (i limit : ℕ) → i < length text → limit < 10 * number_of (take i text) + (get_or text i 0 - 48) → limit < number_of text
number_of_above text i limit l above =
    let step = fold_more (λ number digit. 10 * number + (digit - 48)) 0 text i 0 l in
    omega (arith, step, number_of_front text (i + 1))

-- one digit is a digit text of its own value
one_digit : (digit : ℕ) → digit < 10 → IsDigitText ((48 + digit) ∷ []) × (number_of ((48 + digit) ∷ []) ≡ digit)
one_digit digit small = (
  record {
    some = λ e. cc;
    digits = All-cons IsAsciiDigit (48 + digit) [] (omega arith, omega arith)
        (All-nil IsAsciiDigit);
  },
  omega arith,
)

-- what `decimal` writes is read as its number
decimal_value : (number : ℕ) → number < 2 ^ 64 → IsDigitText (decimal number) × (number_of (decimal number) ≡ number)
decimal_value = decimal_by_steps (λ number text. IsDigitText text × (number_of text ≡ number)) one_digit more
  where
    more : (number : ℕ) (text : List ℕ) → 10 ≤ number → IsDigitText text × (number_of text ≡ number / 10) →
        IsDigitText (text ++ ((48 + number % 10) ∷ [])) × (number_of (text ++ ((48 + number % 10) ∷ [])) ≡ number)
    more number text large h =
        let next : ℕ → ℕ → ℕ = λ number digit. 10 * number + (digit - 48) in
        let step : number_of (text ++ ((48 + number % 10) ∷ [])) ≡ 10 * number_of text + (48 + number % 10 - 48) = fold_push next 0 text (48 + number % 10) in (
          record {
            some = λ e. absurd (omega (arith, ap length e, length-append text ((48 + number % 10) ∷ [])));
            digits = All-push IsAsciiDigit text (48 + number % 10) h.0.digits (omega arith, omega arith);
          },
          omega (arith, step, h.1),
        )

-- what `decimal` writes is read as its number, and has no zeros in front
pub decimal_is_read : DecimalIsRead
decimal_is_read zero small = let d = decimal_value 0 small in record {
  digits = d.0;
  value = d.1;
  shortest = λ l. absurd (omega (arith, ap length (decimal_digit 0 (omega arith))));
}
decimal_is_read (suc less) small =
    let d = decimal_value (suc less) small in
    record { digits = d.0; value = d.1; shortest = λ l e. absurd (omega (arith, first_decimal (suc less) (omega arith) small)) }
