-- Numbers as they are written.
use Rattle.std.specs.Prelude.{◌≡◌, ◌≢◌, ℕ, ◌+◌, ◌-◌, ◌*◌, ◌^◌, ◌<◌, ◌==◌, nat_le, Bool, ◌&&◌, not}
use Rattle.std.specs.Prelude.{List, [], length, slice_index, fold, All, Option, Some, None}
use Rattle.std.specs.Prelude.{decimal, if◌then◌else◌}
use Rattle.std.specs.Char.{IsAsciiDigit, is_ascii_digit}
use Rattle.std.specs.List.{list_all}

-- one or more of the digits '0' to '9'; zeros may stand before others
pub record IsDigitText (text : List ℕ) : Type 0 where
  pub some : text ≢ []
  pub digits : All IsAsciiDigit text

-- the same as a test
abbrev pub is_digit_text : List ℕ → Bool
is_digit_text text = not (length text == 0) && list_all is_ascii_digit text

-- the number that digits write, the one of most weight first; 48 is '0'
abbrev pub number_of : List ℕ → ℕ
number_of text = fold (λ number digit. 10 * number + (digit - 48)) 0 text

-- the number that a digit text writes, where it is at most `most`
unfoldable pub number_within : ℕ → List ℕ → Option ℕ
number_within most text =
    if is_digit_text text && nat_le (number_of text) most then Some (number_of text) else None

-- the text is a digit text of this number, and a zero stands first in it only where it stands alone
pub record IsShortestOf (number : ℕ) (text : List ℕ) : Type 0 where
  pub digits : IsDigitText text
  pub value : number_of text ≡ number
  pub shortest : 1 < length text → slice_index text 0 ≢ 48

-- what is written in decimal is read as the number that it was, and has no zeros in front
abbrev pub DecimalIsRead : Type 0
DecimalIsRead = (number : ℕ) → number < 2 ^ 64 → IsShortestOf number (decimal number)
