-- The tries that wait in a search.
use Rattle.std.proofs.Common.{◌≡◌, ℕ, ◌+◌, ◌*◌, ◌-◌, ◌^◌, ◌<◌, ◌≤◌, ◌⊎◌, length, length-append, ap, inl, inr, ⊎_elim, List, [], ◌∷◌, ◌++◌, refl, sym, subst, Contains, IsPermutation, arith}
use Rattle.std.specs.Prelude.{All}
use Rattle.std.proofs.lemmas.List.Elements.{All-contains, All-cons, Contains-append_cases, Contains-append_left, Contains-append_right, Contains-push, Contains-push_cases}
use Rattle.std.proofs.lemmas.List.Sorted.{Contains-permutation, All-permutation, IsPermutation-sym, length_permutation}
use Rattle.delta_tree.specs.declared.node.Shift.{Shift}
use Rattle.tree_insert.specs.declared.waiting.Waiting.{Waiting}
use Rattle.tree_insert.specs.Waiting.{SearchValue, Gains, Takes}
use Rattle.delta_tree.specs.Nodes.{TreeValue}
use Rattle.tree_insert.specs.UnderWay.{RaisesOnce}
use Rattle.tree_insert.proofs.Members.{contains_head, contains_tail, contains_cases}

-- a search with these tries
abbrev pub search_of : List Waiting → List Waiting → ℕ → List Shift → SearchValue
search_of stack heap level shifts = record {
  waiting = stack ++ heap;
  level = level;
  shifts = shifts;
}

-- ---- one more

pub gains_stack : (stack stack' heap : List Waiting) (level : ℕ)
    (shifts : List Shift) (new : Waiting) →
    stack' ≡ stack ++ new ∷ [] →
    Gains (search_of stack heap level shifts) (search_of stack' heap level shifts)
    (λ each. each ≡ new)
gains_stack stack stack' heap level shifts new is = record {
  kept = λ each there. ⊎_elim
      (λ (here : Contains stack each). subst (λ s. Contains (s ++ heap) each) (sym is)
      (Contains-append_left (stack ++ new ∷ []) heap each
      (Contains-append_left stack (new ∷ []) each here)))
      (λ (other : Contains heap each). Contains-append_right stack' heap each other)
      (Contains-append_cases stack heap each there);
  only = λ each there. ⊎_elim
      (λ (here : Contains stack' each). ⊎_elim
      (λ (old : Contains stack each). inl (Contains-append_left stack heap each old))
      (λ (same : new ≡ each). inr (sym same))
      (Contains-push_cases stack new each (subst (λ s. Contains s each) is here)))
      (λ (other : Contains heap each). inl (Contains-append_right stack heap each other))
      (Contains-append_cases stack' heap each there);
  level = refl;
  shifts = refl;
}

pub gains_heap : (stack heap heap' : List Waiting) (level : ℕ) (shifts : List Shift)
    (new : Waiting) →
    IsPermutation (new ∷ heap) heap' →
    Gains (search_of stack heap level shifts) (search_of stack heap' level shifts)
    (λ each. each ≡ new)
gains_heap stack heap heap' level shifts new moved = record {
  kept = λ each there. ⊎_elim
      (λ (here : Contains stack each). Contains-append_left stack heap' each here)
      (λ (other : Contains heap each). Contains-append_right stack heap' each
      (Contains-permutation (new ∷ heap) heap' each moved (contains_tail new heap each other)))
      (Contains-append_cases stack heap each there);
  only = λ each there. ⊎_elim
      (λ (here : Contains stack each). inl (Contains-append_left stack heap each here))
      (λ (other : Contains heap' each). ⊎_elim (λ (same : new ≡ each). inr (sym same))
      (λ (old : Contains heap each). inl (Contains-append_right stack heap each old))
      (contains_cases new heap each
      (Contains-permutation heap' (new ∷ heap) each (IsPermutation-sym (new ∷ heap) heap' moved)
      other)))
      (Contains-append_cases stack heap' each there);
  level = refl;
  shifts = refl;
}

pub heap_has : (stack heap heap' : List Waiting) (new : Waiting) →
    IsPermutation (new ∷ heap) heap' → Contains (stack ++ heap') new
heap_has stack heap heap' new moved =
    Contains-append_right stack heap' new
    (Contains-permutation (new ∷ heap) heap' new moved (contains_head new heap))

pub heap_below : (heap heap' : List Waiting) (level : ℕ) (new : Waiting) →
    IsPermutation (new ∷ heap) heap' → new.value ≤ level →
    All (λ (each : Waiting). each.value ≤ level) heap →
    All (λ (each : Waiting). each.value ≤ level) heap'
heap_below heap heap' level new moved below all =
    All-permutation (λ (each : Waiting). each.value ≤ level) (new ∷ heap) heap' moved
    (All-cons (λ (each : Waiting). each.value ≤ level) new heap below all)

-- ---- one less

pub takes_stack : (stack stack' heap : List Waiting) (level : ℕ) (shifts : List Shift)
    (taken : Waiting) →
    stack ≡ stack' ++ taken ∷ [] →
    All (λ (each : Waiting). each.value ≡ level) stack →
    Takes (search_of stack heap level shifts) (search_of stack' heap level shifts) taken
takes_stack stack stack' heap level shifts taken is all =
    let there : Contains stack taken =
    subst (λ s. Contains s taken) (sym is) (Contains-push stack' taken) in
    let same : taken.value ≡ level =
    All-contains (λ (each : Waiting). each.value ≡ level) stack taken all there in
    record {
      there = Contains-append_left stack heap taken there;
      rest = λ each has. ⊎_elim
          (λ (here : Contains stack each). ⊎_elim
          (λ (old : Contains stack' each). contains_tail taken (stack' ++ heap) each
          (Contains-append_left stack' heap each old))
          (λ (it : taken ≡ each). subst (λ (x : Waiting). Contains (taken ∷ (stack' ++ heap)) x) it
          (contains_head taken (stack' ++ heap)))
          (Contains-push_cases stack' taken each (subst (λ s. Contains s each) is here)))
          (λ (other : Contains heap each). contains_tail taken (stack' ++ heap) each
          (Contains-append_right stack' heap each other))
          (Contains-append_cases stack heap each has);
      only = λ each has. ⊎_elim
          (λ (here : Contains stack' each). Contains-append_left stack heap each
          (subst (λ s. Contains s each) (sym is)
          (Contains-append_left stack' (taken ∷ []) each here)))
          (λ (other : Contains heap each). Contains-append_right stack heap each other)
          (Contains-append_cases stack' heap each has);
      level = sym same;
      shifts = refl;
      greatest = omega (arith, same);
    }

pub takes_heap : (stack stack' heap heap' : List Waiting) (level : ℕ) (shifts : List Shift)
    (taken : Waiting) →
    stack ≡ stack' → IsPermutation heap (taken ∷ heap') →
    All (λ (each : Waiting). each.value ≤ level) heap →
    Takes (search_of stack heap level shifts) (search_of stack' heap' taken.value shifts) taken
takes_heap stack stack' heap heap' level shifts taken is moved all =
    let back = IsPermutation-sym heap (taken ∷ heap') moved in
    let there : Contains heap taken =
    Contains-permutation (taken ∷ heap') heap taken back (contains_head taken heap') in
    record {
      there = Contains-append_right stack heap taken there;
      rest = λ each has. ⊎_elim
          (λ (here : Contains stack each). contains_tail taken (stack' ++ heap') each
          (Contains-append_left stack' heap' each (subst (λ s. Contains s each) is here)))
          (λ (other : Contains heap each). ⊎_elim
          (λ (it : taken ≡ each). subst (λ (x : Waiting). Contains (taken ∷ (stack' ++ heap')) x) it
          (contains_head taken (stack' ++ heap')))
          (λ (old : Contains heap' each). contains_tail taken (stack' ++ heap') each
          (Contains-append_right stack' heap' each old))
          (contains_cases taken heap' each
          (Contains-permutation heap (taken ∷ heap') each moved other)))
          (Contains-append_cases stack heap each has);
      only = λ each has. ⊎_elim
          (λ (here : Contains stack' each). Contains-append_left stack heap each
          (subst (λ s. Contains s each) (sym is) here))
          (λ (other : Contains heap' each). Contains-append_right stack heap each
          (Contains-permutation (taken ∷ heap') heap each back
          (contains_tail taken heap' each other)))
          (Contains-append_cases stack' heap' each has);
      level = refl;
      shifts = refl;
      greatest = All-contains (λ (each : Waiting). each.value ≤ level) heap taken all there;
    }

-- ---- how many wait

pub fewer_on_stack : (stack stack' heap : List Waiting) (taken : Waiting) →
    stack ≡ stack' ++ taken ∷ [] → length (stack' ++ heap) + 1 ≡ length (stack ++ heap)
fewer_on_stack stack stack' heap taken is =
    omega (
      arith,
      ap (λ (all : List Waiting). length all) is,
      length-append stack' (taken ∷ []),
      length-append stack' heap,
      length-append stack heap,
    )

pub fewer_in_heap : (stack stack' heap heap' : List Waiting) (taken : Waiting) →
    stack ≡ stack' → IsPermutation heap (taken ∷ heap') →
    length (stack' ++ heap') + 1 ≡ length (stack ++ heap)
fewer_in_heap stack stack' heap heap' taken is moved =
    omega (
      arith,
      ap (λ (all : List Waiting). length all) is,
      length_permutation heap (taken ∷ heap') moved,
      length-append stack' heap',
      length-append stack heap,
    )

-- what a search still has to do: fewer tries wait and nothing was raised, or one place more is
-- reported, of which there are fewer than 2^63
abbrev pub to_do : SearchValue → ℕ
to_do search = (2 ^ 63 - length search.shifts) * 2 ^ 66 + length search.waiting

less_for_less : (olds waits waits' : ℕ) → waits' < waits →
    (2 ^ 63 - olds) * 2 ^ 66 + waits' < (2 ^ 63 - olds) * 2 ^ 66 + waits
less_for_less olds waits waits' less = omega (arith, less)

less_for_more : (olds news waits waits' : ℕ) → news ≡ olds + 1 → news < 2 ^ 63 → waits' < 2 ^ 66 →
    (2 ^ 63 - news) * 2 ^ 66 + waits' < (2 ^ 63 - olds) * 2 ^ 66 + waits
less_for_more olds news waits waits' more few short = omega (arith, more, few, short)

-- what follows a try
pub raised_once : (old new : SearchValue) (before after : TreeValue) →
    RaisesOnce old new before after → (new ≡ old) ⊎ (length new.shifts ≡ length old.shifts + 1)
raised_once old new before after (inl is) = inl is.0
raised_once old new before after (inr more) = inr more

-- after a try was taken, and followed
pub less_to_do : (old middle new : SearchValue) → middle.shifts ≡ old.shifts →
    length middle.waiting + 1 ≡ length old.waiting →
    (new ≡ middle) ⊎ (length new.shifts ≡ length middle.shifts + 1) →
    length new.shifts < 2 ^ 63 → length new.waiting < 2 ^ 66 → to_do new < to_do old
less_to_do old middle new same fewer (inl is) few short =
    subst (λ (search : SearchValue). to_do search < to_do old) (sym is)
    (subst (λ (shifts : List Shift). (2 ^ 63 - length shifts) * 2 ^ 66 + length middle.waiting < to_do old)
    (sym same)
    (less_for_less (length old.shifts) (length old.waiting) (length middle.waiting)
    (omega (arith, fewer))))
less_to_do old middle new same fewer (inr more) few short =
    less_for_more (length old.shifts) (length new.shifts) (length old.waiting) (length new.waiting)
    (omega (arith, more, ap (λ (shifts : List Shift). length shifts) same)) few short
