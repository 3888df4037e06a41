-- Two sorted lists of pairs, gone through side by side.
use Rattle.std.proofs.Common.{◌≡◌, ℕ, zero, suc, ◌+◌, ◌<◌, ◌≤◌, Bool, true, false, ◌||◌, List}
use Rattle.std.proofs.Common.{[], ◌∷◌, length, get_or, take, drop, Ordering, refl, sym}
use Rattle.std.proofs.Common.{ap, subst, ◌∙◌, ◌⊎◌, inl, inr, ⊎_elim, arith}
use Rattle.std.specs.Prelude.{◌↔◌, IsTrue, Contains, if◌then◌else◌}
use Rattle.std.specs.Ordering.{is_lt}
use Rattle.std.specs.declared.cmp.Ordering.TheVariants.{Less, Equal, Greater}
use Rattle.std.specs.List.{list_any, prefix_len}
use Rattle.std.specs.List.Sorted.{IsStrictlySortedBy}
use Rattle.std.proofs.lemmas.Bool.{false≢true, both_ways}
use Rattle.std.proofs.lemmas.Cmp.{tied_itself}
use Rattle.std.proofs.lemmas.List.{drop_more, length-take}
use Rattle.std.proofs.lemmas.List.Folds.{length-prefix_len}
use Rattle.std.proofs.lemmas.List.Elements.{All-contains, All-from_recursion}
use Rattle.std.proofs.lemmas.Map.Keys.{sorted_head, sorted_tail}
use Rattle.rpq_base.specs.Order.{pair_cmp}
use Rattle.rpq_base.specs.Same.{same_pair}
use Rattle.rpq_base.specs.declared.data.Pair.{Pair}
use Rattle.rpq_base.proofs.Equality.{same_tests, pairs as pair_test}
use Rattle.rpq_base.proofs.Orders.{pair_cmp_total}
use Rattle.rpq_base.proofs.Members.{cons_members}
use Rattle.rpq_model.proofs.Pairs.{has, has_iff}

-- whether a pair comes before another
abbrev pub is_before : Pair → Pair → Bool
is_before least pair = is_lt (pair_cmp pair least)

-- the pairs from the first one on that doesn't come before another
abbrev pub rest_from : Pair → List Pair → List Pair
rest_from least pairs = drop (prefix_len (is_before least) pairs) pairs

-- ---- the order of pairs

less_from : (order : Ordering) → is_lt order ≡ true → order ≡ Less
less_from Less e = refl
less_from Equal e = cc
less_from Greater e = cc

-- a pair before another isn't the other, nor one that the other comes before
not_itself : (pair other : Pair) → pair_cmp pair other ≡ Less → pair ≡ other → ⊥
not_itself pair other less is =
    let tied = tied_itself pair_cmp_total other in
    let less_2 = ap (λ (each : Pair). pair_cmp each other) (sym is) ∙ less in
    absurd (cc (tied, less_2))

-- ---- sorted lists

-- the first pair comes before each of the rest
before_rest : (first : Pair) (rest : List Pair) (pair : Pair) →
    IsStrictlySortedBy pair_cmp (first ∷ rest) → Contains rest pair → pair_cmp first pair ≡ Less
before_rest first rest pair sorted member =
    All-contains (λ (each : Pair). pair_cmp first each ≡ Less) rest pair
    (All-from_recursion (λ (each : Pair). pair_cmp first each ≡ Less) rest (sorted_head pair_cmp first rest sorted)) member

-- what is left of a sorted list is sorted
drop_sorted : (count : ℕ) (pairs : List Pair) → IsStrictlySortedBy pair_cmp pairs →
    IsStrictlySortedBy pair_cmp (drop count pairs)
drop_sorted zero pairs sorted = sorted
drop_sorted (suc count) [] sorted = sorted
drop_sorted (suc count) (first ∷ rest) sorted = drop_sorted count rest (sorted_tail pair_cmp first rest sorted)

-- a pair isn't before itself, and what it comes before isn't before it either
pub record IsUpTo (least pair : Pair) : Type 0 where
  pub up_to : (least ≡ pair) ⊎ (pair_cmp least pair ≡ Less)

not_before : (least pair first : Pair) → IsUpTo least pair → pair_cmp first least ≡ Less →
    first ≡ pair → ⊥
not_before least pair first upto less is = ⊎_elim
    (λ same. not_itself first least less (is ∙ sym same))
    (λ before. not_itself first pair (pair_cmp_total.trans first least pair less before) is)
    upto.up_to

-- how much of a list passes a test is no more than all
pub prefix_short : {X : Type 0} (test : X → Bool) (elements : List X) →
    prefix_len test elements ≤ length elements
prefix_short test elements = omega (arith, length-prefix_len test elements, length-take (prefix_len test elements) elements)

-- what comes before the least may go
rest_past : (least first : Pair) (rest : List Pair) → is_before least first ≡ true →
    rest_from least (first ∷ rest) ≡ rest_from least rest
rest_past least first rest e =
    let count = prefix_len (is_before least) rest in
    let one : 1 + count ≡ suc count = omega arith in
    ap (λ (test : Bool). drop (if test then 1 + count else 0) (first ∷ rest)) e ∙ ap (λ (passed : ℕ). drop passed (first ∷ rest)) one

-- what doesn't stays, and all after it
rest_here : (least first : Pair) (rest : List Pair) → is_before least first ≡ false →
    rest_from least (first ∷ rest) ≡ first ∷ rest
rest_here least first rest e = ap (λ (test : Bool). drop (if test then 1 + prefix_len (is_before least) rest else 0) (first ∷ rest)) e

step_kept : (test : Bool) (least pair first : Pair) (rest : List Pair) →
    is_before least first ≡ test → IsUpTo least pair →
    Contains (rest_from least rest) pair ↔ Contains rest pair →
    Contains (rest_from least (first ∷ rest)) pair ↔ Contains (first ∷ rest) pair
step_kept true least pair first rest e upto further = subst
    (λ (left : List Pair). Contains left pair ↔ Contains (first ∷ rest) pair)
    (sym (rest_past least first rest e)) (
      (λ member. (cons_members first rest pair).1 (inr (further.0 member))),
      (λ member. ⊎_elim
          (λ is. absurd (not_before least pair first upto (less_from (pair_cmp first least) e) is))
          (λ later. further.1 later)
          ((cons_members first rest pair).0 member)),
    )
step_kept false least pair first rest e upto further =
    subst (λ (left : List Pair). Contains left pair ↔ Contains (first ∷ rest) pair)
    (sym (rest_here least first rest e)) ((λ member. member), (λ member. member))

pub kept_from : (pairs : List Pair) (least pair : Pair) → IsUpTo least pair →
    Contains (rest_from least pairs) pair ↔ Contains pairs pair
kept_from [] least pair upto = ((λ member. member), (λ member. member))
kept_from (first ∷ rest) least pair upto = step_kept (is_before least first) least pair first rest refl upto (kept_from rest least pair upto)

-- ---- whether a pair is among others in order

-- whether the pairs begin with this one
abbrev pub begins : List Pair → Pair → Bool
begins pairs pair = list_any (λ (first : Pair). same_pair first pair) (take 1 pairs)

or_none : (test : Bool) → (test || false) ≡ test
or_none true = refl
or_none false = refl

step_found : (test : Bool) (least first : Pair) (rest : List Pair) → is_before least first ≡ test →
    IsStrictlySortedBy pair_cmp (first ∷ rest) →
    IsTrue (begins (rest_from least rest) least) ↔ Contains rest least →
    IsTrue (begins (rest_from least (first ∷ rest)) least) ↔ Contains (first ∷ rest) least
step_found true least first rest e sorted further = subst
    (λ (left : List Pair). IsTrue (begins left least) ↔ Contains (first ∷ rest) least)
    (sym (rest_past least first rest e)) (
      (λ found. (cons_members first rest least).1 (inr (further.0 found))),
      (λ member. ⊎_elim
          (λ is. absurd (not_itself first least (less_from (pair_cmp first least) e) is))
          (λ later. further.1 later)
          ((cons_members first rest least).0 member)),
    )
step_found false least first rest e sorted further = subst
    (λ (left : List Pair). IsTrue (begins left least) ↔ Contains (first ∷ rest) least)
    (sym (rest_here least first rest e)) (
      (λ found. (cons_members first rest least).1 (inl ((pair_test first least).0 (sym (or_none (same_pair first least)) ∙ found)))),
      (λ member. or_none (same_pair first least) ∙ ⊎_elim
          (λ is. (pair_test first least).1 is)
          (λ later. absurd (both_ways (is_before least first) e (ap is_lt (before_rest first rest least sorted later))))
          ((cons_members first rest least).0 member)),
    )

pub found_first : (pairs : List Pair) (least : Pair) → IsStrictlySortedBy pair_cmp pairs →
    IsTrue (begins (rest_from least pairs) least) ↔ Contains pairs least
found_first [] least sorted = (
  (λ found. absurd (false≢true found)),
  (λ member. absurd (omega (arith, member.1))),
)
found_first (first ∷ rest) least sorted =
    step_found (is_before least first) least first rest refl sorted (found_first rest least (sorted_tail pair_cmp first rest sorted))

-- ---- side by side

-- what is left of the others has the same of the pairs that are left as all the others
pub record IsSideBySide (pairs others : List Pair) (index : ℕ) (rest : List Pair) : Type 0 where
  pub sorted : IsStrictlySortedBy pair_cmp rest
  pub same : (pair : Pair) → Contains (drop index pairs) pair →
      Contains rest pair ↔ Contains others pair

-- one pair further
pub side_by_side : (pairs others : List Pair) (index : ℕ) (rest : List Pair) (pair : Pair) →
    IsStrictlySortedBy pair_cmp pairs →
    index < length pairs → pair ≡ get_or pairs index pair → IsSideBySide pairs others index rest →
    IsSideBySide pairs others (index + 1) (rest_from pair rest)
side_by_side pairs others index rest pair sorted below is so_far =
    let cut : drop index pairs ≡ pair ∷ drop (index + 1) pairs =
    drop_more pairs index pair below
    ∙ ap (λ (first : Pair). first ∷ drop (index + 1) pairs) (sym is) in
    let left = subst (λ (all : List Pair). IsStrictlySortedBy pair_cmp all) cut (drop_sorted index pairs sorted) in
    record {
      sorted = drop_sorted (prefix_len (is_before pair) rest) rest so_far.sorted;
      same = λ later member.
          let kept = kept_from rest pair later (record { up_to = inr (before_rest pair (drop (index + 1) pairs) later left member) }) in
          let there = subst (λ (all : List Pair). Contains all later) (sym cut) ((cons_members pair (drop (index + 1) pairs) later).1 (inr member)) in
          let was = so_far.same later there in
          ((λ found. was.0 (kept.0 found)), (λ found. kept.1 (was.1 found)));
    }

-- the test of the first pair that is left finds whether the pair is among the others
pub begins_is_has : (pairs others : List Pair) (index : ℕ) (rest : List Pair) (pair : Pair) →
    index < length pairs → pair ≡ get_or pairs index pair → IsSideBySide pairs others index rest →
    begins (rest_from pair rest) pair ≡ has others pair
begins_is_has pairs others index rest pair below is so_far =
    let cut : drop index pairs ≡ pair ∷ drop (index + 1) pairs =
    drop_more pairs index pair below
    ∙ ap (λ (first : Pair). first ∷ drop (index + 1) pairs) (sym is) in
    let here = subst (λ (all : List Pair). Contains all pair) (sym cut) ((cons_members pair (drop (index + 1) pairs) pair).1 (inl refl)) in
    let was = so_far.same pair here in
    let first = found_first rest pair so_far.sorted in
    same_tests (begins (rest_from pair rest) pair) (has others pair) (
      (λ found. (has_iff others pair).1 (was.0 (first.0 found))),
      (λ found. first.1 (was.1 ((has_iff others pair).0 found))),
    )
