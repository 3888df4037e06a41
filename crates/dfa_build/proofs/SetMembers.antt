-- Members of intersections, of empty sets and of equal sets.
use Rattle.std.proofs.Common.{◌≡◌, ℕ, zero, suc, ◌/◌, ◌%◌, ◌<◌, ◌≤◌, true, false, ◌==◌, ◌&&◌, min, bit_and, ap, ◌∙◌, arith, inl, inr, eq-eqb}
use Rattle.std.specs.Int.{bit_at}
use Rattle.std.proofs.lemmas.Bool.{cases_eq, eqb-true, eqb-false}
use Rattle.std.proofs.lemmas.Bool.Decides.{nat_tests}
use Rattle.std.proofs.lemmas.Nat.Bits.{bit_at_and, bit_at-lt, bit_at_lowest, bit_at-suc, same_from_bits}
use Rattle.dfa_build.specs.declared.position_set.PositionSet.{PositionSet}
use Rattle.dfa_build.specs.PositionSet.{has}
use Rattle.dfa_build.proofs.Sets.{has_none}

min_bits : (a b : ℕ) → a < 2 → b < 2 → (min a b == 1) ≡ ((a == 1) && (b == 1))
min_bits a b small_a small_b = grind (arith, nat_tests)

pub has_and : (a b p : ℕ) → has (record { bits = bit_and a b }) p ≡ (has (record { bits = a }) p && has (record { bits = b }) p)
unfolding has
has_and a b p = ap (λ n. n == 1) (bit_at_and a b p) ∙ min_bits (bit_at a p) (bit_at b p) (bit_at-lt a p) (bit_at-lt b p)

-- without bits there is no member
pub none_from_zero : (set : PositionSet) → (set.bits == 0) ≡ true → (p : ℕ) → has set p ≡ false
none_from_zero set zero_bits p =
    let none : set.bits ≡ 0 = eqb-true set.bits 0 zero_bits in
    ap (λ (bits : ℕ). has (record { bits = bits }) p) none ∙ has_none p

-- a number above 0 has a bit
some_bit : (most n : ℕ) → n ≤ most → 0 < n → (p : ℕ) × (bit_at n p ≡ 1)
some_bit zero n below above = absurd (omega arith)
some_bit (suc most) n below above = elim (cases_eq (n % 2) 1) [
  | inl odd ↦ (0, bit_at_lowest n ∙ odd)
  | inr even ↦
      let rest = some_bit most (n / 2) (omega arith) (omega arith) in
      (suc rest.0, bit_at-suc n rest.0 ∙ rest.1)
]

-- with a bit there is one
pub some_from_bits : (set : PositionSet) → (set.bits == 0) ≡ false → (p : ℕ) × (has set p ≡ true)
unfolding has
some_from_bits set some_bits =
    let more : set.bits ≡ 0 → ⊥ = eqb-false set.bits 0 some_bits in
    let bit = some_bit set.bits set.bits (omega arith) (omega arith) in
    (bit.0, eq-eqb (bit_at set.bits bit.0) 1 bit.1)

same_bits : (a b : ℕ) → a < 2 → b < 2 → (a == 1) ≡ (b == 1) → a ≡ b
same_bits a b small_a small_b same = grind (arith, nat_tests)

-- sets with the same members are equal
pub same_set : (first second : PositionSet) → ((p : ℕ) → has first p ≡ has second p) → first ≡ second
unfolding has
same_set first second same =
    let bits = same_from_bits first.bits second.bits (λ i. same_bits (bit_at first.bits i) (bit_at second.bits i) (bit_at-lt first.bits i) (bit_at-lt second.bits i) (same i)) in
    λ i. record { bits = bits i }
