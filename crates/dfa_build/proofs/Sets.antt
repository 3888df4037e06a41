-- Members of sets of positions.
use Rattle.std.proofs.Common.{◌≡◌, ◌≢◌, ℕ, ◌<◌, ◌^◌, ◌/◌, false, ◌==◌, ◌||◌, max, bit_and, bit_or, refl, sym, ap, ◌∙◌, arith, eq-eqb, inl, inr, List, length, set, get_or, get_or-set_same, get_or-set_other}
use Rattle.std.specs.Int.{bit_at}
use Rattle.std.proofs.lemmas.Bool.{ne_eqb, cases_eq}
use Rattle.std.proofs.lemmas.Bool.Decides.{nat_tests}
use Rattle.std.proofs.lemmas.Nat.Bits.{bit_at-zero, bit_at_or, bit_at-lt, shr_and_one, bit_at-pow_same, bit_at-pow_other}
use Rattle.dfa_build.specs.declared.position_set.PositionSet.{PositionSet}
use Rattle.dfa_build.specs.PositionSet.{has, row_has}

pub has_none : (p : ℕ) → has (record { bits = 0 }) p ≡ false
unfolding has
has_none p = ap (λ b. b == 1) (bit_at-zero p)

max_bits : (a b : ℕ) → a < 2 → b < 2 → (max a b == 1) ≡ ((a == 1) || (b == 1))
max_bits a b small_a small_b = grind (arith, nat_tests)

pub has_or : (a b p : ℕ) → has (record { bits = bit_or a b }) p ≡ (has (record { bits = a }) p || has (record { bits = b }) p)
unfolding has
has_or a b p = ap (λ n. n == 1) (bit_at_or a b p) ∙ max_bits (bit_at a p) (bit_at b p) (bit_at-lt a p) (bit_at-lt b p)

pub has_read : (bits p : ℕ) → (bit_and (bits / 2 ^ p) 1 == 1) ≡ has (record { bits = bits }) p
unfolding has
has_read bits p = ap (λ n. n == 1) (shr_and_one bits p)

pub has_one : (q p : ℕ) → has (record { bits = 2 ^ q }) p ≡ (p == q)
unfolding has
has_one q p = elim (cases_eq p q) [
  | inl e ↦ (rw e (ap (λ n. n == 1) (bit_at-pow_same q) ∙ sym (eq-eqb q q refl)))
  | inr d ↦ ap (λ n. n == 1) (bit_at-pow_other q p d) ∙ sym (ne_eqb p q d)
]

pub row_has-set_same : (rows : List PositionSet) (i q : ℕ) (set' : PositionSet) → i < length rows → row_has (set rows i set') i q ≡ has set' q
unfolding row_has
row_has-set_same rows i q set' h = ap (λ s. has s q) (get_or-set_same rows i set' (record { bits = 0 }) h)

pub row_has-set_other : (rows : List PositionSet) (i p q : ℕ) (set' : PositionSet) → p ≢ i → row_has (set rows i set') p q ≡ row_has rows p q
unfolding row_has
row_has-set_other rows i p q set' d = ap (λ s. has s q) (get_or-set_other rows i p set' (record { bits = 0 }) d)

pub row_has-read : (rows : List PositionSet) (p q : ℕ) → row_has rows p q ≡ has (get_or rows p (record { bits = 0 })) q
unfolding row_has
row_has-read rows p q = refl
