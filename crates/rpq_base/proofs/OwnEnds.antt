-- Numbers below the ends of inserts.
use Rattle.std.proofs.Common.{◌≡◌, ℕ, ◌<◌, ◌≤◌, true, Option, Some, None, refl, arith}
use Rattle.std.proofs.lemmas.Bool.{ltb-true, lt-ltb}
use Rattle.rpq_base.specs.OwnEnds.{is_before_end, at_most_end}

-- a clock before an end, and below another number, is below the lesser of the two
pub below_both : (until : Option ℕ) (now number : ℕ) → now < number → is_before_end now until ≡ true →
    now < at_most_end number until
below_both None now number less before = less
below_both (Some end) now number less before = omega (arith, less, ltb-true now end before)

-- and a clock below the lesser of the two is below both
pub both_from : (until : Option ℕ) (now number : ℕ) → now < at_most_end number until →
    (now < number) × (is_before_end now until ≡ true)
both_from None now number less = (less, refl)
both_from (Some end) now number less =
    (omega (arith, less), lt-ltb now end (omega (arith, less)))

-- an earlier clock is before each end that a later one is before
pub before_earlier : (until : Option ℕ) (now later : ℕ) → now ≤ later →
    is_before_end later until ≡ true → is_before_end now until ≡ true
before_earlier None now later le before = refl
before_earlier (Some end) now later le before =
    lt-ltb now end (omega (arith, le, ltb-true later end before))

-- an end makes no number greater
pub no_later : (until : Option ℕ) (number : ℕ) → at_most_end number until ≤ number
no_later None number = omega arith
no_later (Some end) number = omega arith
