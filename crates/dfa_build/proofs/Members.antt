-- The members of the lists of positions.
use Rattle.std.proofs.Common.{◌≡◌, ℕ, zero, suc, ◌+◌, ◌<◌, ◌≤◌, Bool, true, cond, inl, inr, List, [], ◌∷◌, length, get_or, filter, All, AllPairs, Contains, sym, ap, subst, ◌∙◌, arith}
use Rattle.std.specs.List.{range_with_len}
use Rattle.std.proofs.lemmas.Bool.{cases_eq, cond_both}
use Rattle.std.proofs.lemmas.List.Elements.{All-weaker, All-contains, Contains-append_right, filter_passes}
use Rattle.std.proofs.lemmas.List.FromFn.{length-range_with_len, get_or-range_with_len}
use Rattle.std.proofs.lemmas.List.Kept.{AllPairs-filter, AllPairs-from_increasing}
use Rattle.dfa_build.specs.PositionSet.{numbers}

listed : (test : ℕ → Bool) (n from p : ℕ) → from ≤ p → p < from + n → test p ≡ true → Contains (filter test (range_with_len from n)) p
listed test zero from p low high h = absurd (omega arith)
listed test (suc n) from p low high h =
    let rest = filter test (range_with_len (from + 1) n) in
    elim (cases_eq p from) [
      | inl e ↦ subst (λ (b : Bool). Contains (cond b (from ∷ rest) rest) p) (sym (ap test (sym e) ∙ h)) (0, omega arith, sym e)
      | inr d ↦ (let within = listed test n (from + 1) p (omega arith) (omega arith) h in
          cond_both (test from) (from ∷ rest) rest (λ (list : List ℕ). Contains list p) (λ _. Contains-append_right (from ∷ []) rest p within) (λ _. within))
    ]

pub numbers_pass : (test : ℕ → Bool) (p : ℕ) → Contains (numbers test) p → test p ≡ true
unfolding numbers
numbers_pass test p h = All-contains (λ (x : ℕ). test x ≡ true) (filter test (range_with_len 0 64)) p (filter_passes test (range_with_len 0 64)) h

pub numbers_contain : (test : ℕ → Bool) (p : ℕ) → p < 64 → test p ≡ true → Contains (numbers test) p
unfolding numbers
numbers_contain test p small h = listed test 64 0 p (omega arith) (omega arith) h

pub numbers_within : (test : ℕ → Bool) (bound : ℕ) → ((p : ℕ) → test p ≡ true → p < bound) → All (λ p. p < bound) (numbers test)
unfolding numbers
numbers_within test bound within =
    All-weaker (λ (x : ℕ). test x ≡ true) (λ (x : ℕ). x < bound) within (filter test (range_with_len 0 64)) (filter_passes test (range_with_len 0 64))

range_rises : (n k : ℕ) → k + 1 < length (range_with_len 0 n) → get_or (range_with_len 0 n) k 0 < get_or (range_with_len 0 n) (k + 1) 0
range_rises n k h =
    let size = length-range_with_len 0 n in
    omega (arith, get_or-range_with_len 0 n k 0 (omega arith), get_or-range_with_len 0 n (k + 1) 0 (omega arith))

pub numbers_rise : (test : ℕ → Bool) → AllPairs ◌<◌ (numbers test)
unfolding numbers
numbers_rise test = AllPairs-filter ◌<◌ test (range_with_len 0 64) (AllPairs-from_increasing (range_with_len 0 64) (range_rises 64))
