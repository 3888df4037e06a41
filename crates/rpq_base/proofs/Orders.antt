-- The orders of labels, words and pairs are total, and tell apart what differs.
use Rattle.std.proofs.Common.{◌≡◌, Bool, true, false, List, [], ◌∷◌, length, Ordering, refl, ap, ◌∙◌}
use Rattle.std.specs.declared.cmp.Ordering.TheVariants.{Less, Equal, Greater}
use Rattle.std.specs.Ordering.{nat_cmp, bool_cmp, ordering_then}
use Rattle.std.specs.Cmp.{IsTotalOrder, bool_cmp_total}
use Rattle.std.specs.Cmp.Lexicographic.{slice_cmp}
use Rattle.std.proofs.lemmas.Cmp.{then_total, on_total, nat_cmp_total, nat_list_cmp_total, lists_total}
use Rattle.std.proofs.lemmas.Map.Lookups.{CmpEqualImpliesEq, exact_bytes}
use Rattle.rpq_base.specs.Order.{name_cmp, label_cmp, word_cmp, pair_cmp}
use Rattle.rpq_base.specs.declared.data.Label.{Label}
use Rattle.rpq_base.specs.declared.data.Pair.{Pair}

-- one comparison after another finds a tie where both do
pub both_equal : (first second : Ordering) → ordering_then first second ≡ Equal → (first ≡ Equal) × (second ≡ Equal)
both_equal Less second e = cc
both_equal Equal second e = (refl, e)
both_equal Greater second e = cc

-- directions that the order doesn't tell apart are equal
pub same_direction : (first second : Bool) → bool_cmp first second ≡ Equal → first ≡ second
same_direction true true e = refl
same_direction true false e = cc
same_direction false true e = cc
same_direction false false e = refl

-- labels are in a total order
pub label_cmp_total : IsTotalOrder label_cmp
label_cmp_total =
    then_total
    (on_total (λ (label : Label). label.name) nat_list_cmp_total)
    (on_total (λ (label : Label). label.back) bool_cmp_total)

-- labels that the order doesn't tell apart are equal
pub label_cmp_exact : CmpEqualImpliesEq label_cmp
label_cmp_exact first second e =
    let parts = both_equal (name_cmp first.name second.name) (bool_cmp first.back second.back) e in
    let name = exact_bytes first.name second.name parts.0 in
    let back = same_direction first.back second.back parts.1 in
    λ i. record { name = name i; back = back i }

-- pairs are in a total order
pub pair_cmp_total : IsTotalOrder pair_cmp
pair_cmp_total =
    then_total
    (on_total (λ (pair : Pair). pair.from) nat_list_cmp_total)
    (on_total (λ (pair : Pair). pair.to) nat_list_cmp_total)

-- pairs that the order doesn't tell apart are equal
pub pair_cmp_exact : CmpEqualImpliesEq pair_cmp
pair_cmp_exact first second e =
    let parts = both_equal (name_cmp first.from second.from) (name_cmp first.to second.to) e in
    λ i. record { from = exact_bytes first.from second.from parts.0 i; to = exact_bytes first.to second.to parts.1 i }

-- lists that an exact order of elements doesn't tell apart are equal
pub lists_exact : {X : Type 0} {cmp : X → X → Ordering} → CmpEqualImpliesEq cmp → CmpEqualImpliesEq (slice_cmp cmp)
lists_exact exact [] [] e = refl
lists_exact exact [] (y ∷ ys) e = cc
lists_exact exact (x ∷ xs) [] e = cc
lists_exact {X} {cmp} exact (x ∷ xs) (y ∷ ys) e =
    let parts = both_equal (cmp x y) (slice_cmp cmp xs ys) e in
    ap (λ first. first ∷ xs) (exact x y parts.0) ∙ ap (λ rest. y ∷ rest) (lists_exact exact xs ys parts.1)

-- words are in a total order
pub word_cmp_total : IsTotalOrder word_cmp
word_cmp_total = then_total (on_total (λ (word : List Label). length word) nat_cmp_total) (lists_total label_cmp_total)

-- words that the order doesn't tell apart are equal
pub word_cmp_exact : CmpEqualImpliesEq word_cmp
word_cmp_exact first second e =
    lists_exact label_cmp_exact first second (both_equal (nat_cmp (length first) (length second)) (slice_cmp label_cmp first second) e).1
