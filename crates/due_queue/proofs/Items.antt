-- What a queue holds after one more was noted, after one was taken, and after a look through all.
use Rattle.std.proofs.Common.{◌≡◌, zero, suc, ◌⊎◌, inl, inr, Bool, true, false, cond, List, [], ◌∷◌, refl, sym, ap, subst, ◌∙◌, Contains, IsPermutation, filter, true≢false, arith}
use Rattle.std.proofs.lemmas.List.Elements.{Contains-append_cases, Contains-append_right}
use Rattle.std.proofs.lemmas.List.Sorted.{Contains-permutation, IsPermutation-sym}
use Rattle.due_queue.specs.declared.due.Due.{Due}
use Rattle.due_queue.specs.Queue.{Notes}

-- the one element of a list
pub the_one : {X : Type 0} (x y : X) → Contains (x ∷ []) y → x ≡ y
the_one x y (zero, within, is) = is
the_one x y (suc k, within, is) = absurd (omega (arith, within))

-- what was noted still is, and so is what comes
pub still_noted : {T : Type 0} (old new : List (Due T)) (more each : Due T) → Notes old new more →
    Contains old each → Contains new each
still_noted old new more each moved there = Contains-permutation (more ∷ old) new each moved
    (Contains-append_right (more ∷ []) old each there)

pub now_noted : {T : Type 0} (old new : List (Due T)) (more : Due T) → Notes old new more →
    Contains new more
now_noted old new more moved =
    Contains-permutation (more ∷ old) new more moved (0, omega arith, refl)

-- all but the one that was taken are left
pub left_over : {T : Type 0} (old new : List (Due T)) (next each : Due T) →
    IsPermutation old (next ∷ new) → Contains old each → Contains new each ⊎ (next ≡ each)
left_over old new next each moved there =
    elim (Contains-append_cases (next ∷ []) new each
    (Contains-permutation old (next ∷ new) each moved there)) [
      | inl here ↦ inr (the_one next each here)
      | inr other ↦ inl other
    ]

-- what passes a test stays in its filter
passes_filter : {X : Type 0} (test : X → Bool) (xs : List X) (x : X) → Contains xs x →
    test x ≡ true → Contains (filter test xs) x
passes_filter test [] x (k, within, is) passes = absurd (omega (arith, within))
passes_filter test (y ∷ ys) x there passes =
    by (test y) refl (Contains-append_cases (y ∷ []) ys x there)
    (λ later. passes_filter test ys x later passes)
  where
    by : (b : Bool) → test y ≡ b → Contains (y ∷ []) x ⊎ Contains ys x →
        (Contains ys x → Contains (filter test ys) x) →
        Contains (cond b (y ∷ filter test ys) (filter test ys)) x
    by true passed (inl here) rest = (0, omega arith, the_one y x here)
    by true passed (inr later) rest = Contains-append_right (y ∷ []) (filter test ys) x (rest later)
    by false failed (inl here) rest =
        absurd (true≢false (sym passes ∙ sym (ap test (the_one y x here)) ∙ failed))
    by false failed (inr later) rest = rest later

-- what is in a filter passes the test
in_filter_passes : {X : Type 0} (test : X → Bool) (xs : List X) (x : X) →
    Contains (filter test xs) x → test x ≡ true
in_filter_passes test [] x (k, within, is) = absurd (omega (arith, within))
in_filter_passes test (y ∷ ys) x there = by (test y) refl there (in_filter_passes test ys x)
  where
    by : (b : Bool) → test y ≡ b → Contains (cond b (y ∷ filter test ys) (filter test ys)) x →
        (Contains (filter test ys) x → test x ≡ true) → test x ≡ true
    by true passed found rest =
        elim (Contains-append_cases (y ∷ []) (filter test ys) x found) [
          | inl here ↦ sym (ap test (the_one y x here)) ∙ passed
          | inr later ↦ rest later
        ]
    by false failed found rest = rest found

-- what passes the test of a look through all is kept
pub kept_noted : {T : Type 0} (test : Due T → Bool) (old kept new : List (Due T)) (each : Due T) →
    kept ≡ filter test old → IsPermutation kept new → Contains old each → test each ≡ true →
    Contains new each
kept_noted test old kept new each is moved there passes = Contains-permutation kept new each moved
    (subst (λ items. Contains items each) (sym is) (passes_filter test old each there passes))

-- and nothing else is
pub kept_passes : {T : Type 0} (test : Due T → Bool) (old kept new : List (Due T)) (each : Due T) →
    kept ≡ filter test old → IsPermutation kept new → Contains new each → test each ≡ true
kept_passes test old kept new each is moved there = in_filter_passes test old each
    (subst (λ items. Contains items each) is
    (Contains-permutation new kept each (IsPermutation-sym kept new moved) there))
