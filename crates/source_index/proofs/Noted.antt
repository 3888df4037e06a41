-- Roots that are noted with their numbers.
use Rattle.std.proofs.Common.{◌≡◌, ℕ, inl, inr, Bool, true, false, cond, List, ◌∷◌, Option, None, Some, Contains, IsPermutation, filter, nat_eq, refl, sym, ap, subst, ◌∙◌, true≢false}
use Rattle.std.specs.Cmp.{nat_eq_equiv}
use Rattle.std.specs.Option.{option_eq}
use Rattle.std.proofs.lemmas.Map.Views.{exact_unsigned_eq}
use Rattle.due_queue.specs.declared.due.Due.{Due}
use Rattle.due_queue.specs.Queue.{due, Notes}
use Rattle.due_queue.proofs.Items.{kept_noted, kept_passes, left_over, now_noted, still_noted}
use Rattle.source_index.specs.Dues.{DuesValue, GivesDue, due_of}
use Rattle.source_index.specs.Queue.{AreNoted, AreNotedBut, ArePresent}

-- no two options differ
pub none_or_some : {X : Type 0} (x : X) → None ≡ Some x → ⊥
none_or_some x is = cc

pub some_is_one : {X : Type 0} (x y : X) → Some x ≡ Some y → x ≡ y
some_is_one x y is = cc

-- a number that is none of its root's present ones was taken
pub noted_left : (numbers : DuesValue) (old new : List (Due ℕ)) (next : Due ℕ) →
    AreNoted numbers old → IsPermutation old (next ∷ new) →
    (due_of numbers next.item ≡ Some next.number → ⊥) → AreNoted numbers new
noted_left numbers old new next noted moved stale root number is =
    elim (left_over old new next (due root number) moved (noted root number is)) [
      | inl there ↦ there
      | inr here ↦ absurd (stale
          (subst (λ (each : Due ℕ). due_of numbers each.item ≡ Some each.number) (sym here) is))
    ]

-- the number of this root was taken
pub noted_but : (numbers : DuesValue) (old new : List (Due ℕ)) (next : Due ℕ) →
    AreNoted numbers old → IsPermutation old (next ∷ new) →
    AreNotedBut next.item numbers new
noted_but numbers old new next noted moved root number other is =
    elim (left_over old new next (due root number) moved (noted root number is)) [
      | inl there ↦ there
      | inr here ↦ absurd (other (sym (ap (λ (each : Due ℕ). each.item) here)))
    ]

-- a root whose number is taken away needs not be noted
pub noted_without : (old new : DuesValue) (queue : List (Due ℕ)) (root : ℕ) →
    AreNotedBut root old queue → GivesDue old new root None → AreNoted new queue
noted_without old new queue root noted gives each number is = by (nat_eq root each) refl
  where
    by : (b : Bool) → nat_eq root each ≡ b → Contains queue (due each number)
    by true same = absurd (none_or_some number
        (sym (ap (λ b. cond b None (due_of old each)) same) ∙ sym (gives each) ∙ is))
    by false apart = noted each number
        (λ at. true≢false (sym (ap (nat_eq root) at ∙ nat_eq_equiv.refl root) ∙ apart))
        (sym (ap (λ b. cond b None (due_of old each)) apart) ∙ sym (gives each) ∙ is)

-- a root that gets a number and is noted with it
pub noted_with : (old new : DuesValue) (queue more : List (Due ℕ)) (root number : ℕ) →
    AreNoted old queue → GivesDue old new root (Some number) →
    Notes queue more (due root number) → AreNoted new more
noted_with old new queue more root number noted gives moved each other is =
    by (nat_eq root each) refl
  where
    by : (b : Bool) → nat_eq root each ≡ b → Contains more (due each other)
    by true same =
        let at : root ≡ each = exact_unsigned_eq root each same in
        let value : number ≡ other = some_is_one number other
        (sym (ap (λ b. cond b (Some number) (due_of old each)) same) ∙ sym (gives each) ∙ is) in
        subst (λ place. Contains more (due place other)) at
        (subst (λ count. Contains more (due root count)) value
        (now_noted queue more (due root number) moved))
    by false apart =
        still_noted queue more (due root number) (due each other) moved (noted each other
        (sym (ap (λ b. cond b (Some number) (due_of old each)) apart) ∙ sym (gives each) ∙ is))

-- a root with this number passes the test
pub present : (found : Option ℕ) (number : ℕ) → found ≡ Some number →
    option_eq nat_eq found (Some number) ≡ true
present found number is =
    ap (λ each. option_eq nat_eq each (Some number)) is ∙ nat_eq_equiv.refl number

-- whether a root has the number with which it is noted
abbrev pub is_present : DuesValue → Due ℕ → Bool
is_present numbers each = option_eq nat_eq (due_of numbers each.item) (Some each.number)

-- what is noted with its present number is enough
pub noted_retained : (numbers : DuesValue) (old kept new : List (Due ℕ)) → AreNoted numbers old →
    kept ≡ filter (is_present numbers) old → IsPermutation kept new → AreNoted numbers new
noted_retained numbers old kept new noted is moved root number here =
    kept_noted (is_present numbers) old kept new (due root number) is moved (noted root number here)
    (present (due_of numbers root) number here)

-- and no others are left
pub present_retained : (numbers : DuesValue) (old kept new : List (Due ℕ)) →
    kept ≡ filter (is_present numbers) old → IsPermutation kept new → ArePresent numbers new
present_retained numbers old kept new is moved each there =
    of_test (due_of numbers each.item) each.number
    (kept_passes (is_present numbers) old kept new each is moved there)
  where
    of_test : (found : Option ℕ) (number : ℕ) → option_eq nat_eq found (Some number) ≡ true →
        found ≡ Some number
    of_test None number passed = absurd cc
    of_test (Some other) number passed = ap (λ n. Some n) (exact_unsigned_eq other number passed)
