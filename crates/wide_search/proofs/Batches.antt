-- The batches that wait in a search.
use Rattle.std.proofs.Common.{◌≡◌, ℕ, ◌+◌, ◌*◌, ◌-◌, ◌^◌, ◌<◌, ◌≤◌, ◌⊎◌, length, length-append, ap, inl, inr, ⊎_elim, List, [], ◌∷◌, ◌++◌, refl, sym, subst, Contains, IsPermutation, arith}
use Rattle.std.specs.Prelude.{All}
use Rattle.std.proofs.lemmas.List.Elements.{All-contains, All-cons, Contains-append_cases, Contains-append_left, Contains-append_right, Contains-push, Contains-push_cases}
use Rattle.std.proofs.lemmas.List.Sorted.{Contains-permutation, All-permutation, IsPermutation-sym, length_permutation}
use Rattle.wide_search.specs.declared.batch.Batch.{Batch}
use Rattle.wide_search.specs.Batches.{BatchesValue, Gains, Takes}
use Rattle.tree_insert.proofs.Members.{contains_head, contains_tail, contains_cases}

-- these batches
abbrev pub batches_of : List Batch → List Batch → ℕ → BatchesValue
batches_of stack heap level = record {
  waiting = stack ++ heap;
  level = level;
}

-- ---- one more

pub gains_stack : (stack stack' heap : List Batch) (level : ℕ)
    (new : Batch) →
    stack' ≡ stack ++ new ∷ [] →
    Gains (batches_of stack heap level) (batches_of stack' heap level)
    (λ each. each ≡ new)
gains_stack stack stack' heap level new is = record {
  kept = λ each there. ⊎_elim
      (λ (here : Contains stack each). subst (λ s. Contains (s ++ heap) each) (sym is)
      (Contains-append_left (stack ++ new ∷ []) heap each
      (Contains-append_left stack (new ∷ []) each here)))
      (λ (other : Contains heap each). Contains-append_right stack' heap each other)
      (Contains-append_cases stack heap each there);
  only = λ each there. ⊎_elim
      (λ (here : Contains stack' each). ⊎_elim
      (λ (old : Contains stack each). inl (Contains-append_left stack heap each old))
      (λ (same : new ≡ each). inr (sym same))
      (Contains-push_cases stack new each (subst (λ s. Contains s each) is here)))
      (λ (other : Contains heap each). inl (Contains-append_right stack heap each other))
      (Contains-append_cases stack' heap each there);
  level = refl;
}

pub gains_heap : (stack heap heap' : List Batch) (level : ℕ)
    (new : Batch) →
    IsPermutation (new ∷ heap) heap' →
    Gains (batches_of stack heap level) (batches_of stack heap' level)
    (λ each. each ≡ new)
gains_heap stack heap heap' level new moved = record {
  kept = λ each there. ⊎_elim
      (λ (here : Contains stack each). Contains-append_left stack heap' each here)
      (λ (other : Contains heap each). Contains-append_right stack heap' each
      (Contains-permutation (new ∷ heap) heap' each moved (contains_tail new heap each other)))
      (Contains-append_cases stack heap each there);
  only = λ each there. ⊎_elim
      (λ (here : Contains stack each). inl (Contains-append_left stack heap each here))
      (λ (other : Contains heap' each). ⊎_elim (λ (same : new ≡ each). inr (sym same))
      (λ (old : Contains heap each). inl (Contains-append_right stack heap each old))
      (contains_cases new heap each
      (Contains-permutation heap' (new ∷ heap) each (IsPermutation-sym (new ∷ heap) heap' moved)
      other)))
      (Contains-append_cases stack heap' each there);
  level = refl;
}

pub heap_has : (stack heap heap' : List Batch) (new : Batch) →
    IsPermutation (new ∷ heap) heap' → Contains (stack ++ heap') new
heap_has stack heap heap' new moved =
    Contains-append_right stack heap' new
    (Contains-permutation (new ∷ heap) heap' new moved (contains_head new heap))

pub heap_below : (heap heap' : List Batch) (level : ℕ) (new : Batch) →
    IsPermutation (new ∷ heap) heap' → new.width ≤ level →
    All (λ (each : Batch). each.width ≤ level) heap →
    All (λ (each : Batch). each.width ≤ level) heap'
heap_below heap heap' level new moved below all =
    All-permutation (λ (each : Batch). each.width ≤ level) (new ∷ heap) heap' moved
    (All-cons (λ (each : Batch). each.width ≤ level) new heap below all)

-- ---- one less

pub takes_stack : (stack stack' heap : List Batch) (level : ℕ) (taken : Batch) →
    stack ≡ stack' ++ taken ∷ [] →
    All (λ (each : Batch). each.width ≡ level) stack →
    Takes (batches_of stack heap level) (batches_of stack' heap level) taken
takes_stack stack stack' heap level taken is all =
    let there : Contains stack taken =
    subst (λ s. Contains s taken) (sym is) (Contains-push stack' taken) in
    let same : taken.width ≡ level =
    All-contains (λ (each : Batch). each.width ≡ level) stack taken all there in
    record {
      there = Contains-append_left stack heap taken there;
      rest = λ each has. ⊎_elim
          (λ (here : Contains stack each). ⊎_elim
          (λ (old : Contains stack' each). contains_tail taken (stack' ++ heap) each
          (Contains-append_left stack' heap each old))
          (λ (it : taken ≡ each). subst (λ (x : Batch). Contains (taken ∷ (stack' ++ heap)) x) it
          (contains_head taken (stack' ++ heap)))
          (Contains-push_cases stack' taken each (subst (λ s. Contains s each) is here)))
          (λ (other : Contains heap each). contains_tail taken (stack' ++ heap) each
          (Contains-append_right stack' heap each other))
          (Contains-append_cases stack heap each has);
      only = λ each has. ⊎_elim
          (λ (here : Contains stack' each). Contains-append_left stack heap each
          (subst (λ s. Contains s each) (sym is)
          (Contains-append_left stack' (taken ∷ []) each here)))
          (λ (other : Contains heap each). Contains-append_right stack heap each other)
          (Contains-append_cases stack' heap each has);
      level = sym same;
      greatest = omega (arith, same);
    }

pub takes_heap : (stack stack' heap heap' : List Batch) (level : ℕ) (taken : Batch) →
    stack ≡ stack' → IsPermutation heap (taken ∷ heap') →
    All (λ (each : Batch). each.width ≤ level) heap →
    Takes (batches_of stack heap level) (batches_of stack' heap' taken.width) taken
takes_heap stack stack' heap heap' level taken is moved all =
    let back = IsPermutation-sym heap (taken ∷ heap') moved in
    let there : Contains heap taken =
    Contains-permutation (taken ∷ heap') heap taken back (contains_head taken heap') in
    record {
      there = Contains-append_right stack heap taken there;
      rest = λ each has. ⊎_elim
          (λ (here : Contains stack each). contains_tail taken (stack' ++ heap') each
          (Contains-append_left stack' heap' each (subst (λ s. Contains s each) is here)))
          (λ (other : Contains heap each). ⊎_elim
          (λ (it : taken ≡ each). subst (λ (x : Batch). Contains (taken ∷ (stack' ++ heap')) x) it
          (contains_head taken (stack' ++ heap')))
          (λ (old : Contains heap' each). contains_tail taken (stack' ++ heap') each
          (Contains-append_right stack' heap' each old))
          (contains_cases taken heap' each
          (Contains-permutation heap (taken ∷ heap') each moved other)))
          (Contains-append_cases stack heap each has);
      only = λ each has. ⊎_elim
          (λ (here : Contains stack' each). Contains-append_left stack heap each
          (subst (λ s. Contains s each) (sym is) here))
          (λ (other : Contains heap' each). Contains-append_right stack heap each
          (Contains-permutation (taken ∷ heap') heap each back
          (contains_tail taken heap' each other)))
          (Contains-append_cases stack' heap' each has);
      level = refl;
      greatest = All-contains (λ (each : Batch). each.width ≤ level) heap taken all there;
    }

-- ---- how many wait

pub fewer_on_stack : (stack stack' heap : List Batch) (taken : Batch) →
    stack ≡ stack' ++ taken ∷ [] → length (stack' ++ heap) + 1 ≡ length (stack ++ heap)
fewer_on_stack stack stack' heap taken is =
    omega (
      arith,
      ap (λ (all : List Batch). length all) is,
      length-append stack' (taken ∷ []),
      length-append stack' heap,
      length-append stack heap,
    )

pub fewer_in_heap : (stack stack' heap heap' : List Batch) (taken : Batch) →
    stack ≡ stack' → IsPermutation heap (taken ∷ heap') →
    length (stack' ++ heap') + 1 ≡ length (stack ++ heap)
fewer_in_heap stack stack' heap heap' taken is moved =
    omega (
      arith,
      ap (λ (all : List Batch). length all) is,
      length_permutation heap (taken ∷ heap') moved,
      length-append stack' heap',
      length-append stack heap,
    )

-- what a search still has to do: fewer batches wait, or there are more gains, of which there are
-- fewer than 2^63
abbrev pub to_do : ℕ → ℕ → ℕ
to_do gains waiting = (2 ^ 63 - gains) * 2 ^ 66 + waiting

less_for_less : (olds waits waits' : ℕ) → waits' < waits →
    (2 ^ 63 - olds) * 2 ^ 66 + waits' < (2 ^ 63 - olds) * 2 ^ 66 + waits
less_for_less olds waits waits' less = omega (arith, less)

less_for_more : (olds news waits waits' : ℕ) → olds < news → news < 2 ^ 63 → waits' < 2 ^ 66 →
    (2 ^ 63 - news) * 2 ^ 66 + waits' < (2 ^ 63 - olds) * 2 ^ 66 + waits
less_for_more olds news waits waits' more few short = omega (arith, more, few, short)

-- after a batch was taken, and followed
pub less_to_do : (gains gains' waits waits' : ℕ) →
    ((gains' ≡ gains) × (waits' < waits)) ⊎ (gains < gains') →
    gains' < 2 ^ 63 → waits' < 2 ^ 66 → to_do gains' waits' < to_do gains waits
less_to_do gains gains' waits waits' (inl is) few short =
    subst (λ (n : ℕ). to_do n waits' < to_do gains waits) (sym is.0)
    (less_for_less gains waits waits' is.1)
less_to_do gains gains' waits waits' (inr more) few short =
    less_for_more gains gains' waits waits' more few short
