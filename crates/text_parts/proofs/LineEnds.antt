-- The carriage return at the end of a line, and comments.
use Rattle.std.proofs.Common.{◌≡◌, ◌≢◌, ℕ, suc, ◌-◌, ◌<◌, ◌≤◌, Bool, true, false, cond, eqb, List, [], ◌∷◌, ◌++◌, length, get_or}
use Rattle.std.proofs.Common.{take, drop, Option, Some, None, Decides, refl, ap, ◌∙◌, arith, eq-eqb, length-append, length-take}
use Rattle.std.proofs.Common.{length-drop}
use Rattle.std.proofs.lemmas.Bool.{eqb-true, false≢true}
use Rattle.std.proofs.lemmas.List.{nil_from_length}
use Rattle.std.proofs.Math.Seq.{split_at, get_or-append_seam, take-append_seam}
use Rattle.text_parts.specs.Lines.{without_return, first_solid, begins_comment, IsComment, is_comment, ReturnIsDropped}

-- a line that isn't empty is what stands before its last byte, and it
pub last_apart : (line : List ℕ) → 0 < length line → line ≡ take (length line - 1) line ++ get_or line (length line - 1) 0 ∷ []
last_apart line some =
    let place = length line - 1 in
    let past : drop (suc place) line ≡ [] = nil_from_length (drop (suc place) line) (omega (arith, length-drop (suc place) line)) in
    split_at line place 0 (omega arith) ∙ ap (λ rest. take place line ++ get_or line place 0 ∷ rest) past

-- a carriage return at the end is dropped
return_dropped : (line : List ℕ) → without_return (line ++ 13 ∷ []) ≡ line
unfolding without_return
return_dropped line =
    let whole = line ++ 13 ∷ [] in
    let place : length whole - 1 ≡ length line = omega (arith, length-append line (13 ∷ [])) in
    let last : get_or whole (length whole - 1) 0 ≡ 13 = ap (λ n. get_or whole n 0) place ∙ get_or-append_seam line 13 [] 0 in
    ap (λ test. cond test (take (length whole - 1) whole) whole) (eq-eqb (get_or whole (length whole - 1) 0) 13 last)
    ∙ ap (λ n. take n whole) place
    ∙ take-append_seam line (13 ∷ [])

-- a line that ends otherwise is kept
kept_line : (line : List ℕ) → ((front : List ℕ) → line ≢ front ++ 13 ∷ []) → without_return line ≡ line
unfolding without_return
kept_line [] other = refl
kept_line (byte ∷ line) other = by (eqb (get_or (byte ∷ line) (length (byte ∷ line) - 1) 0) 13) refl
  where
    whole : List ℕ
    whole = byte ∷ line

    by : (test : Bool) → eqb (get_or whole (length whole - 1) 0) 13 ≡ test → cond test (take (length whole - 1) whole) whole ≡ whole
    by true e =
        absurd (other (take (length whole - 1) whole)
        (last_apart whole (omega arith) ∙ ap (λ b. take (length whole - 1) whole ++ b ∷ []) (eqb-true (get_or whole (length whole - 1) 0) 13 e)))
    by false e = refl

-- one carriage return at the end is dropped, and nothing else
pub return_is_dropped : (line : List ℕ) → ReturnIsDropped line
return_is_dropped line = record { dropped = return_dropped line; kept = kept_line line }

-- a line is no longer without it
pub without_return_shorter : (line : List ℕ) → length (without_return line) ≤ length line
unfolding without_return
without_return_shorter line = by (eqb (get_or line (length line - 1) 0) 13)
  where
    by : (test : Bool) → length (cond test (take (length line - 1) line) line) ≤ length line
    by true = omega (arith, length-take (length line - 1) line)
    by false = omega arith

-- the test of the first byte finds '#'
begins_decides : (first : Option ℕ) → Decides (begins_comment first) (first ≡ Some 35)
begins_decides None = ((λ e. absurd (false≢true e)), (λ e. absurd cc))
begins_decides (Some byte) = ((λ e. ap (λ b. Some b) (eqb-true byte 35 e)), (λ e. ap begins_comment e))

-- the test for comments finds exactly these
pub comment_decides : (line : List ℕ) → Decides (is_comment line) (IsComment line)
comment_decides line = begins_decides (first_solid line)
