-- Lists in strict order: insertions keep it, and their members tell them apart.
use Rattle.std.proofs.Common.{◌≡◌, Bool, true, false, List, [], ◌∷◌, fold, refl, sym, ap, ◌∙◌, Ordering}
use Rattle.std.specs.Prelude.{◌↔◌, All, Contains, if◌then◌else◌}
use Rattle.std.specs.List.Sorted.{IsStrictlySortedBy}
use Rattle.std.specs.declared.cmp.Ordering.TheVariants.{Less, Equal, Greater}
use Rattle.std.specs.Ordering.{match_ordering, ordering_reverse}
use Rattle.std.specs.Cmp.{IsTotalOrder}
use Rattle.std.specs.BTreeSet.{BTreeSet, insert_key, contains}
use Rattle.std.proofs.lemmas.List.Elements.{recursion_from_All, All-cons, All-nil, All-weaker}
use Rattle.std.proofs.lemmas.Map.Keys.{sorted_tail}
use Rattle.std.proofs.lemmas.Map.Lookups.{CmpEqualImpliesEq, btree_set_from_contains}
use Rattle.std.proofs.lemmas.Map.Views.{All-after_first, All-insert_key, btree_set_contains_iff}
use Rattle.rpq_base.proofs.Equality.{same_tests}

-- ---- insertions keep the order

-- no element is in order
pub sorted_nil : {X : Type 0} (cmp : X → X → Ordering) → IsStrictlySortedBy cmp []
unfolding IsStrictlySortedBy
sorted_nil cmp = tt

-- a first element below the others
pub sorted_cons : {X : Type 0} (cmp : X → X → Ordering) (first : X) (rest : List X) → All (λ x. cmp first x ≡ Less) rest →
    IsStrictlySortedBy cmp rest → IsStrictlySortedBy cmp (first ∷ rest)
unfolding IsStrictlySortedBy
sorted_cons cmp first rest below sorted = (recursion_from_All (λ x. cmp first x ≡ Less) rest below, sorted)

-- by the place of the element against the first
placed_sorted : {X : Type 0} {cmp : X → X → Ordering} → IsTotalOrder cmp → (order : Ordering) (key first : X) (rest : List X) →
    order ≡ cmp key first → IsStrictlySortedBy cmp (first ∷ rest) → IsStrictlySortedBy cmp (insert_key cmp rest key) →
    IsStrictlySortedBy cmp (match_ordering order (key ∷ first ∷ rest) (first ∷ rest) (first ∷ insert_key cmp rest key))
placed_sorted {X} {cmp} total Less key first rest is sorted further =
    sorted_cons cmp key (first ∷ rest)
    (All-cons (λ x. cmp key x ≡ Less) first rest (sym is)
    (All-weaker (λ x. cmp first x ≡ Less) (λ x. cmp key x ≡ Less) (λ x. total.trans key first x (sym is)) rest (All-after_first cmp first rest sorted)))
    sorted
placed_sorted total Equal key first rest is sorted further = sorted
placed_sorted {X} {cmp} total Greater key first rest is sorted further =
    sorted_cons cmp first (insert_key cmp rest key)
    (All-insert_key cmp key (λ x. cmp first x ≡ Less) rest (All-after_first cmp first rest sorted) (total.antisymm first key ∙ ap ordering_reverse (sym is)))
    further

-- an insertion keeps the order
pub insert_sorted : {X : Type 0} {cmp : X → X → Ordering} → IsTotalOrder cmp → (elements : List X) (key : X) →
    IsStrictlySortedBy cmp elements → IsStrictlySortedBy cmp (insert_key cmp elements key)
insert_sorted {X} {cmp} total [] key sorted = sorted_cons cmp key [] (All-nil (λ x. cmp key x ≡ Less)) sorted
insert_sorted {X} {cmp} total (first ∷ rest) key sorted =
    placed_sorted total (cmp key first) key first rest refl sorted (insert_sorted total rest key (sorted_tail cmp first rest sorted))

-- the same where the insertion rests on a test
pub choice_sorted : {X : Type 0} {cmp : X → X → Ordering} → IsTotalOrder cmp → (test : Bool) (found : List X) (key : X) →
    IsStrictlySortedBy cmp found → IsStrictlySortedBy cmp (if test then insert_key cmp found key else found)
choice_sorted total true found key sorted = insert_sorted total found key sorted
choice_sorted total false found key sorted = sorted

-- and for insertions one after another
pub fold_sorted : {A X : Type 0} {cmp : X → X → Ordering} → IsTotalOrder cmp → (elements : List A) (test : A → Bool) (give : A → X) (found : List X) →
    IsStrictlySortedBy cmp found →
    IsStrictlySortedBy cmp (fold (λ found element. if test element then insert_key cmp found (give element) else found) found elements)
fold_sorted total [] test give found sorted = sorted
fold_sorted {A} {X} {cmp} total (first ∷ rest) test give found sorted =
    fold_sorted total rest test give (if test first then insert_key cmp found (give first) else found)
    (choice_sorted total (test first) found (give first) sorted)

-- ---- members tell them apart

-- lists in strict order with the same members are equal
pub same_from_members : {X : Type 0} {cmp : X → X → Ordering} → IsTotalOrder cmp → CmpEqualImpliesEq cmp → (elements others : List X) →
    IsStrictlySortedBy cmp elements → IsStrictlySortedBy cmp others →
    ((x : X) → Contains elements x ↔ Contains others x) → elements ≡ others
same_from_members {X} {cmp} total exact elements others elements_sorted others_sorted same =
    let first : BTreeSet X = record { keys = elements } in
    let second : BTreeSet X = record { keys = others } in
    let first_has = btree_set_contains_iff total exact first in
    let second_has = btree_set_contains_iff total exact second in
    btree_set_from_contains total first second elements_sorted others_sorted
    (λ x. same_tests (contains cmp first x) (contains cmp second x) (
      (λ e. (second_has x).1 ((same x).0 ((first_has x).0 e))),
      (λ e. (first_has x).1 ((same x).1 ((second_has x).0 e))),
    ))
    exact
