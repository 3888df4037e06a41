-- The members of lists, and of lists that are made by insertions in an exact order.
use Rattle.std.proofs.Common.{◌≡◌, ℕ, zero, suc, ◌+◌, ◌<◌, ◌≤◌, Bool, true, false, List, [], ◌∷◌, ◌++◌, length, get_or, take, map}
use Rattle.std.proofs.Common.{filter, fold, refl, sym, ap, subst, ◌∙◌, ◌⊎◌, inl, inr, ⊎_elim, Ordering, arith}
use Rattle.std.specs.Prelude.{◌↔◌, Contains, slice_index_or, if◌then◌else◌}
use Rattle.std.specs.declared.cmp.Ordering.TheVariants.{Less, Equal, Greater}
use Rattle.std.specs.Ordering.{match_ordering}
use Rattle.std.specs.BTreeSet.{insert_key}
use Rattle.std.proofs.lemmas.Bool.{false≢true, both_ways}
use Rattle.std.proofs.lemmas.List.{take_more, map_more}
use Rattle.std.proofs.lemmas.List.Elements.{Contains-push, Contains-push_cases, Contains-append_left}
use Rattle.std.proofs.lemmas.Map.Lookups.{CmpEqualImpliesEq}

-- ---- one element more

-- an element at a place is the first or one of the rest
first_or_later : {X : Type 0} (place : ℕ) (first : X) (rest : List X) (x : X) →
    place < length (first ∷ rest) → slice_index_or (first ∷ rest) place x ≡ x → (first ≡ x) ⊎ Contains rest x
first_or_later zero first rest x below is = inl is
first_or_later (suc place) first rest x below is = inr (place, omega arith, is)

-- the members of a list are its first element and the members of the rest
pub cons_members : {X : Type 0} (first : X) (rest : List X) (x : X) → Contains (first ∷ rest) x ↔ ((first ≡ x) ⊎ Contains rest x)
cons_members first rest x = (
  (λ member. first_or_later member.0 first rest x member.1 member.2),
  (λ either. ⊎_elim (λ here. (0, omega arith, here)) (λ later. (suc later.0, omega (arith, later.1), later.2)) either),
)

-- nothing is in the empty list
pub none_in : {X : Type 0} (x : X) → Contains {X = X} [] x → ⊥
none_in x member = absurd (omega (arith, member.1))

-- the second list is the first with one more element
pub record HasOneMore {X : Type 0} (before : List X) (one : X) (after : List X) : Type 0 where
  pub cases : (each : X) → Contains after each → Contains before each ⊎ (one ≡ each)
  pub still : (each : X) → Contains before each → Contains after each
  pub here : Contains after one

-- an element behind
pub one_more : {X : Type 0} (before : List X) (one : X) → HasOneMore before one (before ++ one ∷ [])
one_more before one = record {
  cases = Contains-push_cases before one;
  still = Contains-append_left before (one ∷ []);
  here = Contains-push before one;
}

-- an element in front
pub in_front : {X : Type 0} (first : X) (rest : List X) → HasOneMore rest first (first ∷ rest)
in_front first rest = record {
  cases = λ each member. ⊎_elim (λ here. inr here) (λ later. inl later) ((cons_members first rest each).0 member);
  still = λ each member. (cons_members first rest each).1 (inr member);
  here = (cons_members first rest first).1 (inl refl);
}

-- the elements up to the next
pub next_one : {X : Type 0} (elements : List X) (index : ℕ) (one : X) → index < length elements → one ≡ get_or elements index one →
    HasOneMore (take index elements) one (take (index + 1) elements)
next_one elements index one below is =
    let before = take index elements in
    let after : before ++ one ∷ [] ≡ take (index + 1) elements = ap (λ each. before ++ each ∷ []) is ∙ sym (take_more elements index one below) in
    subst (HasOneMore before one) after (one_more before one)

-- what the elements up to the next give
pub next_given : {X Y : Type 0} (give : X → Y) (elements : List X) (index : ℕ) (one : X) → index < length elements → one ≡ get_or elements index one →
    HasOneMore (map give (take index elements)) (give one) (map give (take (index + 1) elements))
next_given give elements index one below is =
    let before = map give (take index elements) in
    subst (HasOneMore before (give one))
    (ap (λ each. before ++ give each ∷ []) is ∙ sym (map_more give elements index one below))
    (one_more before (give one))

-- ---- elements that pass a test

-- the members of a list with a first element that passes or not
choice_kept : {X : Type 0} (passes : Bool) (first : X) (rest kept : List X) (x : X) (test : X → Bool) → test first ≡ passes →
    Contains kept x ↔ (Contains rest x × (test x ≡ true)) → Contains (if passes then first ∷ kept else kept) x ↔ (Contains (first ∷ rest) x × (test x ≡ true))
choice_kept true first rest kept x test is members = (
  (λ member. ⊎_elim
      (λ here. ((cons_members first rest x).1 (inl here), ap test (sym here) ∙ is))
      (λ later. let both = members.0 later in ((cons_members first rest x).1 (inr both.0), both.1))
      ((cons_members first kept x).0 member)),
  (λ both. (cons_members first kept x).1 (⊎_elim
      (λ here. inl here)
      (λ later. inr (members.1 (later, both.1)))
      ((cons_members first rest x).0 both.0))),
)
choice_kept false first rest kept x test is members = (
  (λ member. let both = members.0 member in ((cons_members first rest x).1 (inr both.0), both.1)),
  (λ both. ⊎_elim
      (λ here. absurd (both_ways (test first) is (ap test here ∙ both.1)))
      (λ later. members.1 (later, both.1))
      ((cons_members first rest x).0 both.0)),
)

-- the members of a filtered list are those that pass the test
pub kept_members : {X : Type 0} (elements : List X) (test : X → Bool) (x : X) → Contains (filter test elements) x ↔ (Contains elements x × (test x ≡ true))
kept_members [] test x = (
  (λ member. absurd (omega (arith, member.1))),
  (λ both. both.0),
)
kept_members (first ∷ rest) test x = choice_kept (test first) first rest (filter test rest) x test refl (kept_members rest test x)

-- ---- an inserted element

-- by the place of the element against the first
placed : {X : Type 0} (order : Ordering) (key first : X) (rest inserted : List X) (x : X) →
    (order ≡ Equal → key ≡ first) →
    Contains inserted x ↔ ((key ≡ x) ⊎ Contains rest x) →
    Contains (match_ordering order (key ∷ first ∷ rest) (first ∷ rest) (first ∷ inserted)) x ↔ ((key ≡ x) ⊎ Contains (first ∷ rest) x)
placed Less key first rest inserted x tied further = cons_members key (first ∷ rest) x
placed Equal key first rest inserted x tied further = (
  (λ member. inr member),
  (λ either. ⊎_elim (λ is. (cons_members first rest x).1 (inl (sym (tied refl) ∙ is))) (λ member. member) either),
)
placed Greater key first rest inserted x tied further = (
  (λ member. ⊎_elim
      (λ here. inr ((cons_members first rest x).1 (inl here)))
      (λ later. ⊎_elim (λ is. inl is) (λ there. inr ((cons_members first rest x).1 (inr there))) (further.0 later))
      ((cons_members first inserted x).0 member)),
  (λ either. (cons_members first inserted x).1 (⊎_elim
      (λ is. inr (further.1 (inl is)))
      (λ member. ⊎_elim (λ here. inl here) (λ later. inr (further.1 (inr later))) ((cons_members first rest x).0 member))
      either)),
)

-- the members after an insertion are the inserted element and those before it
pub insert_members : {X : Type 0} {cmp : X → X → Ordering} → CmpEqualImpliesEq cmp → (elements : List X) (key x : X) →
    Contains (insert_key cmp elements key) x ↔ ((key ≡ x) ⊎ Contains elements x)
insert_members exact [] key x = cons_members key [] x
insert_members {X} {cmp} exact (first ∷ rest) key x =
    placed (cmp key first) key first rest (insert_key cmp rest key) x (exact key first) (insert_members exact rest key x)

-- the same where the insertion rests on a test
pub choice_members : {X : Type 0} {cmp : X → X → Ordering} → CmpEqualImpliesEq cmp → (test : Bool) (found : List X) (key x : X) →
    Contains (if test then insert_key cmp found key else found) x ↔ (Contains found x ⊎ ((test ≡ true) × (key ≡ x)))
choice_members exact true found key x = (
  (λ member. ⊎_elim (λ is. inr (refl, is)) (λ there. inl there) ((insert_members exact found key x).0 member)),
  (λ either. (insert_members exact found key x).1 (⊎_elim (λ there. inr there) (λ is. inl is.1) either)),
)
choice_members exact false found key x = (
  (λ member. inl member),
  (λ either. ⊎_elim (λ there. there) (λ is. absurd (false≢true is.0)) either),
)

-- ---- insertions one after another

-- the value is given by an element that passes the test
pub record IsGiven {A X : Type 0} (test : A → Bool) (give : A → X) (elements : List A) (x : X) : Type 0 where
  pub element : A
  pub member : Contains elements element
  pub passes : test element ≡ true
  pub is : give element ≡ x

-- what the rest gives is given
given_later : {A X : Type 0} (test : A → Bool) (give : A → X) (first : A) (rest : List A) (x : X) →
    IsGiven test give rest x → IsGiven test give (first ∷ rest) x
given_later test give first rest x given = record {
  element = given.element;
  member = (cons_members first rest given.element).1 (inr given.member);
  passes = given.passes;
  is = given.is;
}

-- what is given is given by the first element or by the rest
given_cases : {A X : Type 0} (test : A → Bool) (give : A → X) (first : A) (rest : List A) (x : X) →
    IsGiven test give (first ∷ rest) x → ((test first ≡ true) × (give first ≡ x)) ⊎ IsGiven test give rest x
given_cases test give first rest x given = ⊎_elim
    (λ here. inl (rw here given.passes, rw here given.is))
    (λ later. inr (record { element = given.element; member = later; passes = given.passes; is = given.is }))
    ((cons_members first rest given.element).0 given.member)

-- the members afterwards are those before, and what the elements that pass give
pub fold_members : {A X : Type 0} {cmp : X → X → Ordering} → CmpEqualImpliesEq cmp →
    (elements : List A) (test : A → Bool) (give : A → X) (found : List X) (x : X) →
    Contains (fold (λ found element. if test element then insert_key cmp found (give element) else found) found elements) x
    ↔ (Contains found x ⊎ IsGiven test give elements x)
fold_members exact [] test give found x = (
  (λ member. inl member),
  (λ either. ⊎_elim (λ there. there) (λ given. let none = given.member in absurd (omega (arith, none.1))) either),
)
fold_members {A} {X} {cmp} exact (first ∷ rest) test give found x =
    let further = fold_members exact rest test give (if test first then insert_key cmp found (give first) else found) x in
    let here = choice_members exact (test first) found (give first) x in (
      (λ member. ⊎_elim
          (λ there. ⊎_elim
          (λ before. inl before)
          (λ is. inr (record { element = first; member = (cons_members first rest first).1 (inl refl); passes = is.0; is = is.1 }))
          (here.0 there))
          (λ given. inr (given_later test give first rest x given))
          (further.0 member)),
      (λ either. further.1 (⊎_elim
          (λ before. inl (here.1 (inl before)))
          (λ given. ⊎_elim (λ is. inl (here.1 (inr is))) (λ later. inr later) (given_cases test give first rest x given))
          either)),
    )

-- ---- all elements of a list inserted

-- the elements found, and those of a list, inserted one after another
abbrev pub with_all : {X : Type 0} → (X → X → Ordering) → List X → List X → List X
with_all cmp found elements = fold (λ found element. insert_key cmp found element) found elements

-- the members afterwards are those before and those of the list
pub with_all_members : {X : Type 0} {cmp : X → X → Ordering} → CmpEqualImpliesEq cmp → (elements found : List X) (x : X) →
    Contains (with_all cmp found elements) x ↔ (Contains found x ⊎ Contains elements x)
with_all_members exact [] found x = (
  (λ member. inl member),
  (λ either. ⊎_elim (λ there. there) (λ none. absurd (omega (arith, none.1))) either),
)
with_all_members {X} {cmp} exact (first ∷ rest) found x =
    let further = with_all_members exact rest (insert_key cmp found first) x in
    let here = insert_members exact found first x in
    let both = cons_members first rest x in (
      (λ member. ⊎_elim
          (λ there. ⊎_elim (λ is. inr (both.1 (inl is))) (λ before. inl before) (here.0 there))
          (λ later. inr (both.1 (inr later)))
          (further.0 member)),
      (λ either. further.1 (⊎_elim
          (λ before. inl (here.1 (inr before)))
          (λ member. ⊎_elim (λ is. inl (here.1 (inl is))) (λ later. inr later) (both.0 member))
          either)),
    )

-- the distinct elements of a list are its members
pub distinct_members : {X : Type 0} {cmp : X → X → Ordering} → CmpEqualImpliesEq cmp → (elements : List X) (x : X) →
    Contains (with_all cmp [] elements) x ↔ Contains elements x
distinct_members exact elements x =
    let both = with_all_members exact elements [] x in (
      (λ member. ⊎_elim (λ none. absurd (omega (arith, none.1))) (λ there. there) (both.0 member)),
      (λ member. both.1 (inr member)),
    )

-- ---- how many

-- by the place of the element against the first
insert_length : {X : Type 0} (order : Ordering) (key first : X) (rest inserted : List X) → length inserted ≤ length rest + 1 →
    length (match_ordering order (key ∷ first ∷ rest) (first ∷ rest) (first ∷ inserted)) ≤ length (first ∷ rest) + 1
insert_length Less key first rest inserted further = omega arith
insert_length Equal key first rest inserted further = omega arith
insert_length Greater key first rest inserted further = omega arith

-- an insertion adds at most one
pub insert_few : {X : Type 0} (cmp : X → X → Ordering) (elements : List X) (key : X) → length (insert_key cmp elements key) ≤ length elements + 1
insert_few cmp [] key = omega arith
insert_few cmp (first ∷ rest) key = insert_length (cmp key first) key first rest (insert_key cmp rest key) (insert_few cmp rest key)

-- insertions add at most the number of the elements
pub with_all_few : {X : Type 0} (cmp : X → X → Ordering) (elements found : List X) → length (with_all cmp found elements) ≤ length found + length elements
with_all_few cmp [] found = omega arith
with_all_few cmp (first ∷ rest) found =
    let further = with_all_few cmp rest (insert_key cmp found first) in
    let one = insert_few cmp found first in
    omega arith

-- the distinct elements of a list are no more than its elements
pub distinct_few : {X : Type 0} (cmp : X → X → Ordering) (elements : List X) → length (with_all cmp [] elements) ≤ length elements
distinct_few cmp elements = let few = with_all_few cmp elements [] in omega arith
