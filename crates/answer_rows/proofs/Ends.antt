-- The ends of pairs, and the rows that they stand in.
use Rattle.std.proofs.Common.{◌≡◌, ℕ, Bool, true, false, cond, List, [], ◌∷◌, map, Option, Some, None, Ordering, refl, sym, ap, subst, ◌∙◌}
use Rattle.std.specs.Prelude.{All, find}
use Rattle.std.specs.Option.{option_map}
use Rattle.std.specs.List.{AllByRecursion}
use Rattle.std.specs.Ordering.{ordering_reverse, ordering_then}
use Rattle.std.specs.declared.cmp.Ordering.TheVariants.{Less, Equal, Greater}
use Rattle.std.proofs.lemmas.Bool.{false_from_ne_true}
use Rattle.std.proofs.lemmas.Cmp.{tied_itself, nat_list_cmp_total}
use Rattle.std.proofs.lemmas.List.Elements.{All-nil, All-cons, All-from_recursion, recursion_from_All, All-weaker}
use Rattle.std.proofs.lemmas.Map.Keys.{sorted_head, sorted_tail}
use Rattle.std.proofs.lemmas.Option.{none-some, same_Some}
use Rattle.rpq_base.specs.Order.{name_cmp, pair_cmp}
use Rattle.rpq_base.specs.Same.{same_name, same_pair}
use Rattle.rpq_base.specs.declared.data.Pair.{Pair}
use Rattle.rpq_base.proofs.Equality.{names, pairs as pair_test}
use Rattle.rpq_base.proofs.Orders.{pair_cmp_total, pair_cmp_exact}
use Rattle.rpq_base.proofs.Sorted.{sorted_nil, sorted_cons}
use Rattle.answer_rows.specs.Answers.{Answer, pair as pair_with, pair_of, pairs, AreRows, AreTargets, until_of, row_of, end_of, target_of}
use Rattle.answer_rows.specs.BySource.{answer}
use Rattle.answer_rows.specs.declared.target.Target.{Target}
use Rattle.answer_rows.proofs.Places.{to_of}
use Rattle.answer_rows.proofs.Sources.{row_here, row_elsewhere, row_sorted}

-- ---- the end of a pair stands in the row of its source

end_step : (test : Bool) (first : Answer) (rest : List Answer) (pair : Pair) → same_name first.from pair.from ≡ test →
    until_of rest pair ≡ end_of (row_of rest pair.from) pair.to →
    until_of (first ∷ rest) pair ≡ end_of (row_of (first ∷ rest) pair.from) pair.to
end_step false first rest pair e further = rw e further
end_step true first rest pair e further = rw e (inner (same_name first.to pair.to) refl)
  where
    inner : (test : Bool) → same_name first.to pair.to ≡ test →
        option_map (λ (each : Answer). each.until) (cond (same_name first.to pair.to) (Some first) (find (λ each. same_pair (pair_of each) pair) rest))
        ≡ option_map (λ (each : Target). each.until) (cond (same_name first.to pair.to) (Some (target_of first)) (find (λ each. same_name each.to pair.to) (row_of rest pair.from)))
    inner true is = rw is refl
    inner false is = rw is further

pub ends_in_rows : (rows : List Answer) (pair : Pair) → until_of rows pair ≡ end_of (row_of rows pair.from) pair.to
ends_in_rows [] pair = refl
ends_in_rows (first ∷ rest) pair = end_step (same_name first.from pair.from) first rest pair refl (ends_in_rows rest pair)

-- ---- the ends tell rows

-- pairs that the order tells apart aren't equal
apart : (first second : Pair) → pair_cmp first second ≡ Less → same_pair second first ≡ false
apart first second less = false_from_ne_true (same_pair second first) (λ e.
    let tied : pair_cmp first second ≡ Equal =
    ap (pair_cmp first) ((pair_test second first).0 e) ∙ tied_itself pair_cmp_total first in
    cc)

-- a pair below all others has no end there
none_below : (pair : Pair) (rows : List Answer) → AllByRecursion (λ each. pair_cmp pair each ≡ Less) (pairs rows) → until_of rows pair ≡ None
none_below pair [] below = refl
none_below pair (first ∷ rest) below = rw (apart pair (pair_of first) below.0) (none_below pair rest below.1)

-- the first pair has the first end
end_here : (first : Answer) (rest : List Answer) → until_of (first ∷ rest) (pair_of first) ≡ Some first.until
end_here first rest = rw ((pair_test (pair_of first) (pair_of first)).1 refl) refl

-- another pair has its end among the rest
end_later : (first : Answer) (rest : List Answer) (pair : Pair) → same_pair (pair_of first) pair ≡ false →
    until_of (first ∷ rest) pair ≡ until_of rest pair
end_later first rest pair e = rw e refl

below_all : (first : Answer) (rest : List Answer) → AreRows (first ∷ rest) →
    AllByRecursion (λ each. pair_cmp (pair_of first) each ≡ Less) (pairs rest)
below_all first rest sorted = sorted_head pair_cmp (pair_of first) (pairs rest) sorted

-- what the first pair is, it is in both
rest_same : (first other : Answer) (rest others : List Answer) → AreRows (first ∷ rest) → AreRows (other ∷ others) →
    pair_of first ≡ pair_of other → ((pair : Pair) → until_of (first ∷ rest) pair ≡ until_of (other ∷ others) pair) →
    (pair : Pair) (test : Bool) → same_pair (pair_of first) pair ≡ test → until_of rest pair ≡ until_of others pair
rest_same first other rest others sorted others_sorted is same pair true e =
    let here : pair_of first ≡ pair = (pair_test (pair_of first) pair).0 e in
    let there : pair_of other ≡ pair = sym is ∙ here in
    ap (until_of rest) (sym here) ∙ (none_below (pair_of first) rest (below_all first rest sorted)
    ∙ (sym (none_below (pair_of other) others (below_all other others others_sorted)) ∙ ap (until_of others) there))
rest_same first other rest others sorted others_sorted is same pair false e =
    let apart_too : same_pair (pair_of other) pair ≡ false = ap (λ (each : Pair). same_pair each pair) (sym is) ∙ e in
    sym (end_later first rest pair e) ∙ (same pair ∙ end_later other others pair apart_too)

-- the first of two lists with the same ends isn't below the first of the other
not_below : (first other : Answer) (rest others : List Answer) → AreRows (other ∷ others) →
    ((pair : Pair) → until_of (first ∷ rest) pair ≡ until_of (other ∷ others) pair) → pair_cmp (pair_of first) (pair_of other) ≡ Less → ⊥
not_below first other rest others others_sorted same less =
    let all = All-from_recursion (λ (each : Pair). pair_cmp (pair_of other) each ≡ Less) (pairs others) (below_all other others others_sorted) in
    let further : AllByRecursion (λ (each : Pair). pair_cmp (pair_of first) each ≡ Less) (pairs others) =
    recursion_from_All (λ (each : Pair). pair_cmp (pair_of first) each ≡ Less) (pairs others)
    (All-weaker (λ (each : Pair). pair_cmp (pair_of other) each ≡ Less) (λ (each : Pair). pair_cmp (pair_of first) each ≡ Less)
    (λ each. pair_cmp_total.trans (pair_of first) (pair_of other) each less) (pairs others) all) in
    let none : until_of (other ∷ others) (pair_of first) ≡ None = none_below (pair_of first) (other ∷ others) (less, further) in
    none-some first.until (sym none ∙ (sym (same (pair_of first)) ∙ end_here first rest))

answers_equal : (first other : Answer) → pair_of first ≡ pair_of other → first.until ≡ other.until → first ≡ other
answers_equal first other pairs_are until_is =
    λ i. record { from = (ap (λ (each : Pair). each.from) pairs_are) i; to = (ap (λ (each : Pair). each.to) pairs_are) i; until = until_is i }

ends_step : (order : Ordering) (first other : Answer) (rest others : List Answer) →
    pair_cmp (pair_of first) (pair_of other) ≡ order → AreRows (first ∷ rest) → AreRows (other ∷ others) →
    ((pair : Pair) → until_of (first ∷ rest) pair ≡ until_of (other ∷ others) pair) →
    (((pair : Pair) → until_of rest pair ≡ until_of others pair) → rest ≡ others) → first ∷ rest ≡ other ∷ others
ends_step Less first other rest others is sorted others_sorted same further = absurd (not_below first other rest others others_sorted same is)
ends_step Greater first other rest others is sorted others_sorted same further =
    absurd (not_below other first others rest sorted (λ pair. sym (same pair))
    (pair_cmp_total.antisymm (pair_of other) (pair_of first) ∙ ap ordering_reverse is))
ends_step Equal first other rest others is sorted others_sorted same further =
    let pair_is : pair_of first ≡ pair_of other = pair_cmp_exact (pair_of first) (pair_of other) is in
    let until_is : first.until ≡ other.until =
    same_Some first.until other.until
    (sym (end_here first rest) ∙ (same (pair_of first) ∙ (ap (until_of (other ∷ others)) pair_is ∙ end_here other others))) in
    let rest_is = further (λ pair. rest_same first other rest others sorted others_sorted pair_is same pair (same_pair (pair_of first) pair) refl) in
    ap (λ (each : Answer). each ∷ rest) (answers_equal first other pair_is until_is) ∙ ap (λ (all : List Answer). other ∷ all) rest_is

pub ends_tell : (rows others : List Answer) → AreRows rows → AreRows others →
    ((pair : Pair) → until_of rows pair ≡ until_of others pair) → rows ≡ others
ends_tell [] [] sorted others_sorted same = refl
ends_tell [] (other ∷ others) sorted others_sorted same =
    absurd (none-some other.until (same (pair_of other) ∙ end_here other others))
ends_tell (first ∷ rest) [] sorted others_sorted same =
    absurd (none-some first.until (sym (same (pair_of first)) ∙ end_here first rest))
ends_tell (first ∷ rest) (other ∷ others) sorted others_sorted same =
    ends_step (pair_cmp (pair_of first) (pair_of other)) first other rest others refl sorted others_sorted same
    (ends_tell rest others (sorted_tail pair_cmp (pair_of first) (pairs rest) sorted) (sorted_tail pair_cmp (pair_of other) (pairs others) others_sorted))

-- rows whose sources have the same targets are the same
pub rows_tell : (rows others : List Answer) → AreRows rows → AreRows others →
    ((from : List ℕ) → row_of rows from ≡ row_of others from) → rows ≡ others
rows_tell rows others sorted others_sorted same = ends_tell rows others sorted others_sorted (λ pair.
    ends_in_rows rows pair ∙ (ap (λ (row : List Target). end_of row pair.to) (same pair.from) ∙ sym (ends_in_rows others pair)))

-- ---- the ends tell one row

-- the ends of one row, as answers of any source
row_ends : (row : List Target) (pair : Pair) (test : Bool) → same_name [] pair.from ≡ test →
    until_of (map (answer []) row) pair ≡ cond test (end_of row pair.to) None
row_ends row pair true e =
    ends_in_rows (map (answer []) row) pair
    ∙ ap (λ (each : List Target). end_of each pair.to)
    (ap (row_of (map (answer []) row)) (sym ((names [] pair.from).0 e)) ∙ row_here [] row)
row_ends row pair false e =
    ends_in_rows (map (answer []) row) pair
    ∙ ap (λ (each : List Target). end_of each pair.to) (row_elsewhere [] pair.from row e)

pub targets_tell : (row others : List Target) → AreTargets row → AreTargets others →
    ((to : List ℕ) → end_of row to ≡ end_of others to) → row ≡ others
targets_tell row others sorted others_sorted same =
    let rows = ends_tell (map (answer []) row) (map (answer []) others) (row_sorted [] row sorted) (row_sorted [] others others_sorted)
    (λ pair.
    let test = same_name [] pair.from in
    row_ends row pair test refl ∙ (ap (λ (found : Option ℕ). cond test found None) (same pair.to) ∙ sym (row_ends others pair test refl))) in
    sym (row_here [] row) ∙ (ap (λ (all : List Answer). row_of all []) rows ∙ row_here [] others)

-- the targets of a source in pairs above one of it
targets_above : (from to : List ℕ) (rest : List Answer) → AllByRecursion (λ each. pair_cmp (pair_with from to) each ≡ Less) (pairs rest) →
    All (λ name. name_cmp to name ≡ Less) (map to_of (row_of rest from))
targets_above from to [] above = All-nil (λ (name : List ℕ). name_cmp to name ≡ Less)
targets_above from to (first ∷ rest) above = by (same_name first.from from) refl (targets_above from to rest above.1)
  where
    by : (test : Bool) → same_name first.from from ≡ test → All (λ name. name_cmp to name ≡ Less) (map to_of (row_of rest from)) →
        All (λ name. name_cmp to name ≡ Less) (map to_of (row_of (first ∷ rest) from))
    by false e later = rw e later
    by true e later =
        let tied : name_cmp from first.from ≡ Equal = ap (name_cmp from) ((names first.from from).0 e) ∙ tied_itself nat_list_cmp_total from in
        let less : name_cmp to first.to ≡ Less = ap (λ (order : Ordering). ordering_then order (name_cmp to first.to)) (sym tied) ∙ above.0 in
        rw e (All-cons (λ (name : List ℕ). name_cmp to name ≡ Less) first.to (map to_of (row_of rest from)) less later)

-- the row of a source is in order
pub rows_in_order : (rows : List Answer) (from : List ℕ) → AreRows rows → AreTargets (row_of rows from)
rows_in_order [] from sorted = sorted_nil name_cmp
rows_in_order (first ∷ rest) from sorted =
    by (same_name first.from from) refl (rows_in_order rest from (sorted_tail pair_cmp (pair_of first) (pairs rest) sorted))
  where
    above : first.from ≡ from → All (λ name. name_cmp first.to name ≡ Less) (map to_of (row_of rest from))
    above is = targets_above from first.to rest
        (subst (λ (name : List ℕ). AllByRecursion (λ each. pair_cmp (pair_with name first.to) each ≡ Less) (pairs rest)) is
        (below_all first rest sorted))

    by : (test : Bool) → same_name first.from from ≡ test → AreTargets (row_of rest from) → AreTargets (row_of (first ∷ rest) from)
    by false e later = rw e later
    by true e later = rw e
        (sorted_cons name_cmp first.to (map to_of (row_of rest from)) (above ((names first.from from).0 e)) later)
