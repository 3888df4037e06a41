-- The places of labels.
use Rattle.std.proofs.Common.{◌≡◌, ℕ, ◌+◌, ◌<◌, ◌≤◌, List, length, get_or, Option, Some, None, Result, Ok, Err, refl, sym, ap, ◌∙◌, ⊎_elim, arith}
use Rattle.std.specs.Prelude.{◌↔◌}
use Rattle.std.specs.List.{slice_get, position}
use Rattle.std.specs.List.Sorted.{IsSortedBy, IsStrictlySortedBy, IsBinarySearchResult, IsSearchInRange}
use Rattle.std.specs.Ordering.{is_lt, ordering_reverse}
use Rattle.std.specs.Result.{result_ok}
use Rattle.std.specs.declared.cmp.Ordering.TheVariants.{Less, Equal, Greater}
use Rattle.std.proofs.lemmas.Bool.{cases_lt, cases_order}
use Rattle.std.proofs.lemmas.Cmp.{tied_itself}
use Rattle.std.proofs.lemmas.List.Sorted.{searchable_from_sorted}
use Rattle.std.proofs.lemmas.Map.Keys.{Less-from_sorted}
use Rattle.std.proofs.lemmas.Option.{slice_get-get_or, slice_get_within, get_or_from_slice_get}
use Rattle.rpq_base.proofs.Orders.{label_cmp_total, label_cmp_exact}
use Rattle.rpq_base.proofs.Places.{label_at_place, no_place}
use Rattle.rpq_base.specs.Order.{label_cmp}
use Rattle.rpq_base.specs.Same.{same_label}
use Rattle.rpq_base.specs.declared.data.Label.{Label}
use Rattle.dfa_table.specs.DfaValue.{DfaValue, IsDfa, place_of}

-- in strict order a label stands at one place
one_place : (labels : List Label) (label : Label) (i j : ℕ) → IsStrictlySortedBy label_cmp labels → i < j → j < length labels →
    get_or labels i label ≡ label → get_or labels j label ≡ label → ⊥
one_place labels label i j sorted before below first second =
    let less = Less-from_sorted label_cmp labels i j label sorted before below in
    let same : label_cmp label label ≡ Less =
    ap (λ (l : Label). label_cmp l label) (sym first) ∙ (ap (label_cmp (get_or labels i label)) (sym second) ∙ less) in
    let tied = tied_itself label_cmp_total label in
    cc

found_place : (o : Option ℕ) → (labels : List Label) (label : Label) (place : ℕ) → IsStrictlySortedBy label_cmp labels →
    position (λ each. same_label each label) labels ≡ o → place < length labels → get_or labels place label ≡ label → o ≡ Some place
found_place None labels label place sorted is below there = absurd (no_place labels label is (place, below, there))
found_place (Some found) labels label place sorted is below there =
    let here = label_at_place labels label found is in
    ⊎_elim
    (λ equal. ap (λ (n : ℕ). Some n) equal)
    (λ other. ⊎_elim
    (λ before. absurd (one_place labels label found place sorted before below here.1 there))
    (λ after. absurd (one_place labels label place found sorted after here.0 there here.1))
    other)
    (cases_order found place)

pub labels_have_places : (dfa : DfaValue) (label : Label) (place : ℕ) → IsDfa dfa →
    (place_of dfa label ≡ Some place) ↔ (slice_get dfa.labels place ≡ Some label)
labels_have_places dfa label place valid = (
  (λ is.
      let here = label_at_place dfa.labels label place is in
      slice_get-get_or dfa.labels place label here.0 ∙ ap (λ (l : Label). Some l) here.1),
  (λ stands. found_place (place_of dfa label) dfa.labels label place valid.sorted refl
      (slice_get_within dfa.labels place label stands) (get_or_from_slice_get dfa.labels place label label stands)),
)

-- ---- the binary search

-- in strict order no label is below the one before it
none_falls : (labels : List Label) → IsStrictlySortedBy label_cmp labels → IsSortedBy (λ x y. is_lt (label_cmp x y)) labels
none_falls labels sorted = λ k d low high.
    let less = Less-from_sorted label_cmp labels k (k + 1) d sorted (omega arith) high in
    ap is_lt (label_cmp_total.antisymm (get_or labels (k + 1) d) (get_or labels k d) ∙ ap ordering_reverse less)

not_there : (o : Option ℕ) (labels : List Label) (label : Label) (gap : ℕ) → position (λ each. same_label each label) labels ≡ o →
    ((k : ℕ) → k < gap → label_cmp (get_or labels k label) label ≡ Less) →
    ((k : ℕ) → gap ≤ k → k < length labels → label_cmp (get_or labels k label) label ≡ Greater) → None ≡ o
not_there None labels label gap is below above = refl
not_there (Some place) labels label gap is below above =
    let here = label_at_place labels label place is in
    let tied : label_cmp (get_or labels place label) label ≡ Equal =
    ap (λ (l : Label). label_cmp l label) here.1 ∙ tied_itself label_cmp_total label in
    ⊎_elim
    (λ before. let less = below place before in cc)
    (λ after. let greater = above place after here.0 in cc)
    (cases_lt place gap)

-- what a search of strictly sorted labels finds is the place of the label
pub found_by_search : (found : Result ℕ ℕ) (labels : List Label) (label : Label) → IsStrictlySortedBy label_cmp labels →
    IsBinarySearchResult (λ each. label_cmp each label) labels found → IsSearchInRange found (length labels) →
    result_ok found ≡ position (λ each. same_label each label) labels
found_by_search (Ok place) labels label sorted found within =
    let here = label_cmp_exact (get_or labels place label) label (found label) in
    sym (found_place (position (λ each. same_label each label) labels) labels label place sorted refl within here)
found_by_search (Err gap) labels label sorted found within =
    let point = found (searchable_from_sorted label_cmp_total (λ (each : Label). each) labels label (none_falls labels sorted)) in
    not_there (position (λ each. same_label each label) labels) labels label gap refl
    (λ k below. point.0 k label (omega arith) below)
    (λ k low high. point.1 k label low high)
