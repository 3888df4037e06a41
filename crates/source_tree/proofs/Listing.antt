-- The list of the vertices with an end.
use Rattle.std.proofs.Common.{◌≡◌, ◌==◌, ◌⊎◌, inl, inr, ℕ, suc, ◌+◌, ◌^◌, ◌<◌, ◌≤◌, Bool, true, false, cond, nat_lt, List, [], ◌∷◌, ◌++◌, take, get_or, map, Option, None, Some, Ordering, refl, sym, ap, subst, ◌∙◌, Contains, IsPermutation, slice_get, true≢false, eq-eqb, arith}
use Rattle.std.specs.Prelude.{⊤}
use Rattle.std.specs.Cmp.{IsEquivalence, IsTotalOrder, nat_eq_equiv, unsigned_ties}
use Rattle.std.specs.Ordering.{is_lt, nat_cmp}
use Rattle.std.specs.List.{dedup, dedup_from}
use Rattle.std.specs.List.Sorted.{IsNonDecreasingBy, IsSorted, IsStrictlySortedBy}
use Rattle.std.specs.declared.cmp.Ordering.TheVariants.{Less, Equal, Greater}
use Rattle.std.proofs.lemmas.Bool.{eqb-true, ltb-true}
use Rattle.std.proofs.lemmas.Cmp.{nat_cmp_total, on_equiv, on_total}
use Rattle.std.proofs.lemmas.List.{take_more}
use Rattle.std.proofs.lemmas.List.Elements.{All-map, All-from_recursion, Contains-get_or, Contains-push_cases}
use Rattle.std.proofs.lemmas.List.Kept.{Any-dedup, IsStrictlySortedBy-dedup}
use Rattle.std.proofs.lemmas.List.Sorted.{Contains-permutation, IsPermutation-sym}
use Rattle.std.proofs.lemmas.Map.Keys.{sorted_head, sorted_tail}
use Rattle.std.proofs.lemmas.Option.{slice_get-get_or, slice_get_within}
use Rattle.rpq_base.proofs.Sorted.{sorted_nil, sorted_cons}
use Rattle.delta_tree.specs.declared.node.NodeId.{NodeId}
use Rattle.delta_tree.specs.Nodes.{GivesNodes, TreeValue, ids_of, node_id, node_of, value_of}
use Rattle.delta_tree.proofs.Ids.{some_is_one, value_has_node}
use Rattle.tree_insert.proofs.Members.{contains_cases, contains_head, contains_tail, contains_none}
use Rattle.source_tree.specs.Ends.{AreReached, end_in}
use Rattle.source_tree.specs.Listing.{AddsValue, HaveValues, IsValue, order_of}
use Rattle.source_tree.specs.declared.change.Reached.{Reached}
use Rattle.source_tree.proofs.Covering.{IsAtMost, covers_all, greatest_from, values_at}

-- ---- the places

-- a place with a value is one of the walk
pub is_walked : (tree : TreeValue) (id : NodeId) (value : ℕ) → GivesNodes tree →
    value_of tree id ≡ Some value → Contains (ids_of tree) id
is_walked tree id value gives is =
    (gives.exact id).1 (value_has_node (node_of tree id) value is)

-- ---- the walk

-- the list has values alone, and those of the final places so far
pub record IsListing (finals : List ℕ) (tree : TreeValue) (walked : List NodeId)
    (reached : List Reached) : Type 0 where
  pub only : (each : Reached) → Contains reached each → IsValue finals tree each
  pub fits : (each : Reached) → Contains reached each → each.value < 2 ^ 64
  pub there : (id : NodeId) → Contains walked id → Contains finals id.state → (value : ℕ) →
      value_of tree id ≡ Some value →
      Contains reached (record { vertex = id.vertex; value = value })

-- one place more of the walk
pub walked_more : (ids : List NodeId) (k : ℕ) (id : NodeId) → slice_get ids k ≡ Some id →
    take (k + 1) ids ≡ take k ids ++ id ∷ []
walked_more ids k id is =
    let within = slice_get_within ids k id is in
    take_more ids k id within
    ∙ ap (λ (each : NodeId). take k ids ++ each ∷ [])
    (some_is_one (get_or ids k id) id (sym (slice_get-get_or ids k id within) ∙ is))

module _ (finals : List ℕ) (tree : TreeValue) (walked : List NodeId) (id : NodeId)
    (old : List Reached) (listing : IsListing finals tree walked old) where
  -- whose state is final
  pub listing_more : (new : List Reached) → Contains finals id.state →
      AddsValue tree id old new → IsListing finals tree (walked ++ id ∷ []) new
  listing_more new state_final adds = record {
    only = λ each there. elim (adds.only each there) [
      | inl before ↦ listing.only each before
      | inr is ↦
          let place : node_id each.vertex id.state ≡ id =
          ap (λ (vertex : ℕ). node_id vertex id.state) is.0 in
          (id.state, state_final, ap (value_of tree) place ∙ is.1)
    ];
    fits = λ each there. elim (adds.only each there) [
      | inl before ↦ listing.fits each before
      | inr is ↦ is.2
    ];
    there = λ each there final value is.
        elim (Contains-push_cases walked id each there) [
          | inl before ↦ adds.kept (record { vertex = each.vertex; value = value })
              (listing.there each before final value is)
          | inr same ↦ subst
              (λ (one : NodeId). Contains new (record { vertex = one.vertex; value = value }))
              same
              (adds.there value (ap (value_of tree) same ∙ is))
        ];
  }

  -- whose state isn't
  pub listing_other : (Contains finals id.state → ⊥) →
      IsListing finals tree (walked ++ id ∷ []) old
  listing_other other = record {
    only = listing.only;
    fits = listing.fits;
    there = λ each there final value is.
        elim (Contains-push_cases walked id each there) [
          | inl before ↦ listing.there each before final value is
          | inr same ↦ absurd (other (subst (λ (one : NodeId). Contains finals one.state)
              (sym same) final))
        ];
  }

-- after the whole walk
pub listing_ends : (finals : List ℕ) (tree : TreeValue) (reached : List Reached) →
    GivesNodes tree → IsListing finals tree (ids_of tree) reached →
    HaveValues finals tree reached
listing_ends finals tree reached gives listing = record {
  exact = λ each. (
    listing.only each,
    (λ (state, final, is).
        let id = node_id each.vertex state in
        listing.there id (is_walked tree id each.value gives is) final each.value is),
  );
  fits = listing.fits;
}

-- ---- in order

abbrev vertex_of : Reached → ℕ
vertex_of each = each.vertex

abbrev vertex_cmp : Reached → Reached → Ordering
vertex_cmp first second = nat_cmp first.vertex second.vertex

abbrev pub same_vertex : Reached → Reached → Bool
same_vertex first second = first.vertex == second.vertex

vertices_total : IsTotalOrder vertex_cmp
vertices_total = on_total vertex_of nat_cmp_total

same_vertex_laws : IsEquivalence same_vertex
same_vertex_laws = on_equiv vertex_of nat_eq_equiv

vertices_sorted : (reached : List Reached) → IsStrictlySortedBy vertex_cmp reached →
    IsStrictlySortedBy nat_cmp (map vertex_of reached)
vertices_sorted [] sorted = sorted_nil nat_cmp
vertices_sorted (first ∷ rest) sorted =
    sorted_cons nat_cmp first.vertex (map vertex_of rest)
    (All-map (λ (each : ℕ). nat_cmp first.vertex each ≡ Less) vertex_of rest
    (All-from_recursion (λ (each : Reached). vertex_cmp first each ≡ Less) rest
    (sorted_head vertex_cmp first rest sorted)))
    (vertices_sorted rest (sorted_tail vertex_cmp first rest sorted))

not_above : (low high : ℕ) → low ≤ high → is_lt (nat_cmp high low) ≡ false
not_above low high below = by (nat_lt high low) refl
  where
    equal_or_greater : (b : Bool) → is_lt (cond b Equal Greater) ≡ false
    equal_or_greater true = refl
    equal_or_greater false = refl

    by : (b : Bool) → nat_lt high low ≡ b →
        is_lt (cond b Less (cond (high == low) Equal Greater)) ≡ false
    by true is = absurd (omega (arith, ltb-true high low is, below))
    by false is = equal_or_greater (high == low)

-- what the order says of two
before : (first second : Reached) → first.value < 2 ^ 64 → second.value < 2 ^ 64 →
    order_of first ≤ order_of second → first.vertex ≤ second.vertex
before first second first_fits second_fits low = omega (arith, first_fits, second_fits, low)

falls : (first second : Reached) → first.value < 2 ^ 64 → second.value < 2 ^ 64 →
    order_of first ≤ order_of second → first.vertex ≡ second.vertex →
    second.value ≤ first.value
falls first second first_fits second_fits low same =
    omega (arith, first_fits, second_fits, low, same)

in_order : (reached : List Reached) → ((each : Reached) → Contains reached each →
    each.value < 2 ^ 64) → IsNonDecreasingBy order_of reached → IsSorted vertex_cmp reached
in_order reached fits rise k d low high =
    let first = get_or reached k d in
    let second = get_or reached (k + 1) d in
    not_above first.vertex second.vertex
    (before first second (fits first (Contains-get_or reached k d (omega (arith, high))))
    (fits second (Contains-get_or reached (k + 1) d high))
    (rise k (k + 1) d (omega arith) high))

-- ---- the first of each vertex has the greatest value

-- the order rises
abbrev Rises : List Reached → Type 0
Rises [] = ⊤
Rises (first ∷ rest) =
    ((each : Reached) → Contains rest each → order_of first ≤ order_of each) × Rises rest

rises : (reached : List Reached) → IsNonDecreasingBy order_of reached → Rises reached
rises [] rise = tt
rises (first ∷ rest) rise = (
  (λ each there. subst (λ (one : Reached). order_of first ≤ order_of one) there.2
      (rise 0 (suc there.0) each (omega arith) (omega (arith, there.1)))),
  rises rest (λ i j d low high. rise (suc i) (suc j) d (omega (arith, low)) (omega (arith, high))),
)

-- what is kept is there
from_kept : (first : Reached) (rest : List Reached) (each : Reached) →
    Contains (dedup_from same_vertex first rest) each → (first ≡ each) ⊎ Contains rest each
from_kept first [] each there = contains_cases first [] each there
from_kept first (second ∷ rest) each there =
    by (same_vertex second first) (from_kept first rest each) (from_kept second rest each) there
  where
    by : (b : Bool) →
        (Contains (dedup_from same_vertex first rest) each → (first ≡ each) ⊎ Contains rest each) →
        (Contains (dedup_from same_vertex second rest) each →
        (second ≡ each) ⊎ Contains rest each) →
        Contains (cond b (dedup_from same_vertex first rest)
        (first ∷ dedup_from same_vertex second rest)) each →
        (first ≡ each) ⊎ Contains (second ∷ rest) each
    by true here further there = elim (here there) [
      | inl is ↦ inl is
      | inr more ↦ inr (contains_tail second rest each more)
    ]
    by false here further there =
        elim (contains_cases first (dedup_from same_vertex second rest) each there) [
          | inl is ↦ inl is
          | inr more ↦ elim (further more) [
            | inl is ↦ inr (subst (Contains (second ∷ rest)) is (contains_head second rest))
            | inr behind ↦ inr (contains_tail second rest each behind)
          ]
        ]

-- no other of the vertex has a greater value than the first
head_kept : (kept first : Reached) (rest : List Reached) →
    ((each : Reached) → Contains (first ∷ rest) each → each.value < 2 ^ 64) →
    Rises (first ∷ rest) → first ≡ kept → (other : Reached) → other.vertex ≡ kept.vertex →
    Contains (first ∷ rest) other → other.value ≤ kept.value
head_kept kept first rest fits rise is other same there =
    let value : first.value ≡ kept.value = ap (λ (each : Reached). each.value) is in
    elim (contains_cases first rest other there) [
      | inl at ↦ omega (arith, value, ap (λ (each : Reached). each.value) at)
      | inr more ↦
          let less : other.value ≤ first.value =
          falls first other (fits first (contains_head first rest)) (fits other there)
          (rise.0 other more) (ap (λ (each : Reached). each.vertex) is ∙ sym same) in
          omega (arith, value, less)
    ]

-- what is kept comes no earlier than the second, where it isn't the first
not_earlier : (kept second : Reached) (rest : List Reached) → Rises (second ∷ rest) →
    Contains (dedup_from same_vertex second rest) kept → order_of second ≤ order_of kept
not_earlier kept second rest rise is = elim (from_kept second rest kept is) [
  | inl at ↦
      let order : order_of second ≡ order_of kept = ap (λ (each : Reached). order_of each) at in
      omega (arith, order)
  | inr more ↦ rise.0 kept more
]

still_in : (second : Reached) (rest : List Reached) (kept : Reached) →
    Contains (dedup_from same_vertex second rest) kept → Contains (second ∷ rest) kept
still_in second rest kept is = elim (from_kept second rest kept is) [
  | inl at ↦ subst (Contains (second ∷ rest)) at (contains_head second rest)
  | inr more ↦ contains_tail second rest kept more
]

greatest_kept : (kept first : Reached) (rest : List Reached) →
    ((each : Reached) → Contains (first ∷ rest) each → each.value < 2 ^ 64) →
    Rises (first ∷ rest) → Contains (dedup_from same_vertex first rest) kept →
    (other : Reached) → other.vertex ≡ kept.vertex → Contains (first ∷ rest) other →
    other.value ≤ kept.value
greatest_kept kept first [] fits rise is other same there =
    elim (contains_cases first [] kept is) [
      | inl at ↦ head_kept kept first [] fits rise at other same there
      | inr more ↦ absurd (contains_none kept more)
    ]
greatest_kept kept first (second ∷ rest) fits rise is other same there =
    by (same_vertex second first) refl
    (greatest_kept kept first rest
    (λ each within. fits each (wider first each within))
    ((λ each within. rise.0 each (contains_tail second rest each within)), rise.1.1))
    (greatest_kept kept second rest
    (λ each within. fits each (contains_tail first (second ∷ rest) each within)) rise.1) is
  where
    wider : (start each : Reached) → Contains (start ∷ rest) each →
        Contains (start ∷ (second ∷ rest)) each
    wider start each within = elim (contains_cases start rest each within) [
      | inl at ↦ subst (Contains (start ∷ (second ∷ rest))) at
          (contains_head start (second ∷ rest))
      | inr more ↦ contains_tail start (second ∷ rest) each
          (contains_tail second rest each more)
    ]

    first_fits : first.value < 2 ^ 64
    first_fits = fits first (contains_head first (second ∷ rest))

    second_fits : second.value < 2 ^ 64
    second_fits = fits second
        (contains_tail first (second ∷ rest) second (contains_head second rest))

    low : order_of first ≤ order_of second
    low = rise.0 second (contains_head second rest)

    by : (b : Bool) → same_vertex second first ≡ b →
        (Contains (dedup_from same_vertex first rest) kept → (one : Reached) →
        one.vertex ≡ kept.vertex → Contains (first ∷ rest) one → one.value ≤ kept.value) →
        (Contains (dedup_from same_vertex second rest) kept → (one : Reached) →
        one.vertex ≡ kept.vertex → Contains (second ∷ rest) one → one.value ≤ kept.value) →
        Contains (cond b (dedup_from same_vertex first rest)
        (first ∷ dedup_from same_vertex second rest)) kept → other.value ≤ kept.value
    by true equal here further kept_in =
        let vertex : second.vertex ≡ first.vertex = eqb-true second.vertex first.vertex equal in
        elim (contains_cases first (second ∷ rest) other there) [
          | inl at ↦ here kept_in other same
              (subst (Contains (first ∷ rest)) at (contains_head first rest))
          | inr more ↦ elim (contains_cases second rest other more) [
            | inl at ↦
                let start : first.vertex ≡ kept.vertex =
                sym vertex ∙ ap (λ (each : Reached). each.vertex) at ∙ same in
                let high : first.value ≤ kept.value =
                here kept_in first start (contains_head first rest) in
                let less : second.value ≤ first.value =
                falls first second first_fits second_fits low (sym vertex) in
                omega (arith, high, less, ap (λ (each : Reached). each.value) at)
            | inr deep ↦ here kept_in other same (contains_tail first rest other deep)
          ]
        ]
    by false differ here further kept_in =
        elim (contains_cases first (dedup_from same_vertex second rest) kept kept_in) [
          | inl at ↦ head_kept kept first (second ∷ rest) fits rise at other same there
          | inr behind ↦ elim (contains_cases first (second ∷ rest) other there) [
            | inl at ↦
                let kept_fits : kept.value < 2 ^ 64 = fits kept
                (contains_tail first (second ∷ rest) kept (still_in second rest kept behind)) in
                let from_second : second.vertex ≤ kept.vertex =
                before second kept second_fits kept_fits
                (not_earlier kept second rest rise.1 behind) in
                let from_first : first.vertex ≤ second.vertex =
                before first second first_fits second_fits low in
                let start : first.vertex ≡ kept.vertex =
                ap (λ (each : Reached). each.vertex) at ∙ same in
                let one : second.vertex ≡ first.vertex =
                omega (arith, from_second, from_first, start) in
                absurd (true≢false (sym (eq-eqb second.vertex first.vertex one) ∙ differ))
            | inr more ↦ further behind other same more
          ]
        ]

-- the first of a vertex has its end
kept_end : (finals : List ℕ) (tree : TreeValue) (sorted : List Reached) (kept : Reached) →
    HaveValues finals tree sorted → IsNonDecreasingBy order_of sorted →
    Contains (dedup same_vertex sorted) kept →
    Some kept.value ≡ end_in finals tree kept.vertex
kept_end finals tree [] kept have rise is = absurd (contains_none kept is)
kept_end finals tree (first ∷ rest) kept have rise is =
    covers_all finals (values_at tree kept.vertex) (λ state. ⊤) (Some kept.value)
    (record {
      from = λ value same.
          let found = (have.exact kept).0 (still_in first rest kept is) in
          (found.0, found.1, found.2 ∙ same);
      most = λ state final seen. by state final (values_at tree kept.vertex state) refl;
    })
    (λ state final. inl tt)
  where
    by : (state : ℕ) → Contains finals state → (found : Option ℕ) →
        values_at tree kept.vertex state ≡ found → IsAtMost found (Some kept.value)
    by state final None none = tt
    by state final (Some value) there =
        let other : Reached = record { vertex = kept.vertex; value = value } in
        greatest_kept kept first rest have.fits (rises (first ∷ rest) rise) is other refl
        ((have.exact other).1 (state, final, there))

-- in another order
values_moved : (finals : List ℕ) (tree : TreeValue) (old new : List Reached) →
    IsPermutation old new → HaveValues finals tree old → HaveValues finals tree new
values_moved finals tree old new moved have = record {
  exact = λ each. (
    (λ there. (have.exact each).0
        (Contains-permutation new old each (IsPermutation-sym old new moved) there)),
    (λ is. Contains-permutation old new each moved ((have.exact each).1 is)),
  );
  fits = λ each there. have.fits each
      (Contains-permutation new old each (IsPermutation-sym old new moved) there);
}

pub are_reached : (finals : List ℕ) (tree : TreeValue) (old sorted distinct : List Reached) →
    HaveValues finals tree old → IsPermutation old sorted →
    IsNonDecreasingBy order_of sorted → distinct ≡ dedup same_vertex sorted →
    AreReached finals tree distinct
are_reached finals tree old sorted distinct before_it moved rise is = record {
  exact = λ vertex value.
      let each : Reached = record { vertex = vertex; value = value } in (
        (λ there. sym (kept_end finals tree sorted each have rise
            (subst (λ (all : List Reached). Contains all each) is there))),
        (λ ends. forth each ends),
      );
  sorted = vertices_sorted distinct (subst (IsStrictlySortedBy vertex_cmp) (sym is)
      (IsStrictlySortedBy-dedup vertices_total
      (λ first second. unsigned_ties first.vertex second.vertex) sorted
      (in_order sorted have.fits rise)));
}
  where
    have : HaveValues finals tree sorted
    have = values_moved finals tree old sorted moved before_it

    forth : (each : Reached) → end_in finals tree each.vertex ≡ Some each.value →
        Contains distinct each
    forth each ends =
        let from = greatest_from finals (values_at tree each.vertex) each.value ends in
        let kept = Any-dedup same_vertex_laws sorted each
        ((have.exact each).1 (from.0, from.1, from.2)) in
        let other = kept.1 in
        let there : Contains (dedup same_vertex sorted) other = (kept.0, kept.2, kept.3) in
        let vertex : each.vertex ≡ other.vertex = eqb-true each.vertex other.vertex kept.4 in
        let value : each.value ≡ other.value = some_is_one each.value other.value
        (sym ends ∙ ap (end_in finals tree) vertex
        ∙ sym (kept_end finals tree sorted other have rise there)) in
        subst (Contains distinct) (sym (λ i. record { vertex = vertex i; value = value i }))
        (subst (λ (all : List Reached). Contains all other) (sym is) there)
