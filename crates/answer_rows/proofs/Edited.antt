-- Rows in which one target changed.
use Rattle.std.proofs.Common.{◌≡◌, ◌≢◌, ℕ, zero, suc, ◌<◌, ◌≤◌, Bool, true, false, not, ◌||◌, cond, List, [], ◌∷◌, length, get_or, map, Option, Some, None, Result, Ok, Err, Ordering, refl, sym, ap, subst, ◌∙◌, arith}
use Rattle.std.specs.Prelude.{All, IsTrue, OnOk, OnErr, set}
use Rattle.std.specs.List.{insert, remove}
use Rattle.std.specs.List.Sorted.{IsStrictlySortedBy, IsBinarySearchResult, IsSearchInRange}
use Rattle.std.specs.BTreeSet.{insert_key}
use Rattle.std.specs.Option.{is_some}
use Rattle.std.specs.Ordering.{match_ordering, ordering_reverse}
use Rattle.std.specs.declared.cmp.Ordering.TheVariants.{Less, Equal, Greater}
use Rattle.std.proofs.lemmas.Bool.{false_from_ne_true, false≢true}
use Rattle.std.proofs.lemmas.Cmp.{tied_itself, nat_list_cmp_total}
use Rattle.std.proofs.lemmas.List.{get_or-map, length-map}
use Rattle.std.proofs.lemmas.List.Elements.{All-nil, All-head, All-tail, All-from_recursion}
use Rattle.std.proofs.lemmas.List.Sorted.{searchable_from_sorted}
use Rattle.std.proofs.lemmas.Map.Keys.{sorted_head, sorted_tail}
use Rattle.std.proofs.lemmas.Map.Lookups.{exact_bytes}
use Rattle.rpq_base.specs.Order.{name_cmp}
use Rattle.rpq_base.specs.Same.{same_name}
use Rattle.rpq_base.specs.declared.data.Pair.{Pair}
use Rattle.rpq_base.proofs.Equality.{names, name_again}
use Rattle.rpq_base.proofs.Sorted.{insert_sorted, sorted_cons, sorted_nil}
use Rattle.answer_rows.specs.Answers.{Answer, pair, AreTargets, end_of, has_target, row_of, until_of, KeepsOtherRows, KeepsOtherPairs}
use Rattle.answer_rows.specs.RowEdits.{target, with_target, without_target}
use Rattle.answer_rows.specs.declared.target.Target.{Target}
use Rattle.answer_rows.proofs.Ends.{ends_in_rows}
use Rattle.answer_rows.proofs.Listed.{kept_in_order}
use Rattle.answer_rows.proofs.Places.{to_of, apart_less, apart_greater, before_place, none_falls, found_is_has, has_is_end}

-- different names don't pass the test
pub apart_names : (first second : List ℕ) → first ≢ second → same_name first second ≡ false
apart_names first second apart = false_from_ne_true (same_name first second) (λ e. apart ((names first second).0 e))

turned_less : (first second : List ℕ) → name_cmp first second ≡ Less → name_cmp second first ≡ Greater
turned_less first second less = nat_list_cmp_total.antisymm second first ∙ ap ordering_reverse less

turned_greater : (first second : List ℕ) → name_cmp first second ≡ Greater → name_cmp second first ≡ Less
turned_greater first second greater = nat_list_cmp_total.antisymm second first ∙ ap ordering_reverse greater

-- ---- the ends in a row with a target

-- the end of a name, by the first target
abbrev first_end : Bool → ℕ → Option ℕ → Option ℕ
first_end test until rest = cond test (Some until) rest

by_first : (test : Bool) (first : Target) (rest : List Target) (to : List ℕ) → same_name first.to to ≡ test →
    end_of (first ∷ rest) to ≡ first_end test first.until (end_of rest to)
by_first true first rest to e = rw e refl
by_first false first rest to e = rw e refl

here_step : (order : Ordering) (first : Target) (rest : List Target) (to : List ℕ) (until : ℕ) → name_cmp to first.to ≡ order →
    end_of (with_target rest to until) to ≡ Some until →
    end_of (match_ordering order (target to until ∷ first ∷ rest) (target first.to until ∷ rest) (first ∷ with_target rest to until)) to ≡ Some until
here_step Less first rest to until e further = by_first true (target to until) (first ∷ rest) to (name_again to)
here_step Equal first rest to until e further =
    by_first true (target first.to until) rest to ((names first.to to).1 (sym (exact_bytes to first.to e)))
here_step Greater first rest to until e further =
    by_first false first (with_target rest to until) to (apart_less first.to to (turned_greater to first.to e)) ∙ further

pub end_put : (targets : List Target) (to : List ℕ) (until : ℕ) → end_of (with_target targets to until) to ≡ Some until
end_put [] to until = by_first true (target to until) [] to (name_again to)
end_put (first ∷ rest) to until = here_step (name_cmp to first.to) first rest to until refl (end_put rest to until)

other_step : (order : Ordering) (first : Target) (rest : List Target) (to : List ℕ) (until : ℕ) (other : List ℕ) → name_cmp to first.to ≡ order →
    other ≢ to → end_of (with_target rest to until) other ≡ end_of rest other →
    end_of (match_ordering order (target to until ∷ first ∷ rest) (target first.to until ∷ rest) (first ∷ with_target rest to until)) other
    ≡ end_of (first ∷ rest) other
other_step Less first rest to until other e apart further =
    by_first false (target to until) (first ∷ rest) other (apart_names to other (λ is. apart (sym is)))
other_step Equal first rest to until other e apart further =
    let is : to ≡ first.to = exact_bytes to first.to e in
    let here : same_name first.to other ≡ false = apart_names first.to other (λ same. apart (sym same ∙ sym is)) in
    by_first false (target first.to until) rest other here ∙ sym (by_first false first rest other here)
other_step Greater first rest to until other e apart further =
    let test = same_name first.to other in
    by_first test first (with_target rest to until) other refl
    ∙ (ap (first_end test first.until) further ∙ sym (by_first test first rest other refl))

pub end_beside : (targets : List Target) (to : List ℕ) (until : ℕ) (other : List ℕ) → other ≢ to →
    end_of (with_target targets to until) other ≡ end_of targets other
end_beside [] to until other apart = by_first false (target to until) [] other (apart_names to other (λ is. apart (sym is)))
end_beside (first ∷ rest) to until other apart =
    other_step (name_cmp to first.to) first rest to until other refl apart (end_beside rest to until other apart)

-- ---- the order of a row with a target

names_step : (order : Ordering) (first : Target) (rest : List Target) (to : List ℕ) (until : ℕ) →
    map to_of (with_target rest to until) ≡ insert_key name_cmp (map to_of rest) to →
    map to_of (match_ordering order (target to until ∷ first ∷ rest) (target first.to until ∷ rest) (first ∷ with_target rest to until))
    ≡ match_ordering order (to ∷ first.to ∷ map to_of rest) (first.to ∷ map to_of rest) (first.to ∷ insert_key name_cmp (map to_of rest) to)
names_step Less first rest to until further = refl
names_step Equal first rest to until further = refl
names_step Greater first rest to until further = ap (λ (all : List (List ℕ)). first.to ∷ all) further

names_put : (targets : List Target) (to : List ℕ) (until : ℕ) → map to_of (with_target targets to until) ≡ insert_key name_cmp (map to_of targets) to
names_put [] to until = refl
names_put (first ∷ rest) to until = names_step (name_cmp to first.to) first rest to until (names_put rest to until)

pub put_in_order : (targets : List Target) (to : List ℕ) (until : ℕ) → AreTargets targets → AreTargets (with_target targets to until)
put_in_order targets to until sorted =
    subst (IsStrictlySortedBy name_cmp) (sym (names_put targets to until)) (insert_sorted nat_list_cmp_total (map to_of targets) to sorted)

-- ---- a target at its place

pub set_is_with : (targets : List Target) (place : ℕ) (to : List ℕ) (until : ℕ) (d : Target) → AreTargets targets → place < length targets →
    (get_or targets place d).to ≡ to → set targets place (target to until) ≡ with_target targets to until
set_is_with [] place to until d sorted within is = absurd (omega (arith, within))
set_is_with (first ∷ rest) zero to until d sorted within is =
    let tied : name_cmp to first.to ≡ Equal = ap (name_cmp to) is ∙ tied_itself nat_list_cmp_total to in
    rw tied (ap (λ (name : List ℕ). target name until ∷ rest) (sym is))
set_is_with (first ∷ rest) (suc place) to until d sorted within is =
    let rest_within : place < length rest = omega (arith, within) in
    let less = before_place first rest place d to sorted rest_within is in
    rw (turned_less first.to to less) (ap (λ (others : List Target). first ∷ others)
    (set_is_with rest place to until d (sorted_tail name_cmp first.to (map to_of rest) sorted) rest_within is))

insert_is_with : (targets : List Target) (gap : ℕ) (to : List ℕ) (until : ℕ) → gap ≤ length targets →
    ((k : ℕ) (d : Target) → k < gap → name_cmp (get_or targets k d).to to ≡ Less) →
    ((k : ℕ) (d : Target) → gap ≤ k → k < length targets → name_cmp (get_or targets k d).to to ≡ Greater) →
    insert targets gap (target to until) ≡ with_target targets to until
insert_is_with [] zero to until within below above = refl
insert_is_with [] (suc gap) to until within below above = absurd (omega (arith, within))
insert_is_with (first ∷ rest) zero to until within below above =
    rw (turned_greater first.to to (above 0 first (omega arith) (omega arith))) refl
insert_is_with (first ∷ rest) (suc gap) to until within below above =
    rw (turned_less first.to to (below 0 first (omega arith))) (ap (λ (others : List Target). first ∷ others)
    (insert_is_with rest gap to until (omega (arith, within))
    (λ k d low. below (suc k) d (omega (arith, low)))
    (λ k d low high. above (suc k) d (omega (arith, low)) (omega (arith, high)))))

pub gap_is_with : (targets : List Target) (gap : ℕ) (to : List ℕ) (until : ℕ) → AreTargets targets →
    IsSearchInRange (Err gap) (length targets) →
    IsBinarySearchResult (λ (each : Target). name_cmp each.to to) targets (Err gap) →
    insert targets gap (target to until) ≡ with_target targets to until
gap_is_with targets gap to until sorted within found =
    let point = found (searchable_from_sorted nat_list_cmp_total to_of targets to (none_falls targets sorted)) in
    insert_is_with targets gap to until within
    (λ k d below. point.0 k d (omega arith) below)
    (λ k d low high. point.1 k d low high)

-- ---- a row without a target

all_stay : (targets : List Target) (to : List ℕ) → All (λ (each : Target). same_name each.to to ≡ false) targets → without_target targets to ≡ targets
all_stay [] to all = refl
all_stay (first ∷ rest) to all =
    rw (All-head (λ (each : Target). same_name each.to to ≡ false) first rest all)
    (ap (λ (others : List Target). first ∷ others) (all_stay rest to (All-tail (λ (each : Target). same_name each.to to ≡ false) first rest all)))

rest_stays : (first : Target) (rest : List Target) (to : List ℕ) → AreTargets (first ∷ rest) → first.to ≡ to → without_target rest to ≡ rest
rest_stays first rest to sorted is = all_stay rest to (λ k d below.
    let all = All-from_recursion (λ (name : List ℕ). name_cmp first.to name ≡ Less) (map to_of rest) (sorted_head name_cmp first.to (map to_of rest) sorted) in
    let many : k < length (map to_of rest) = rw (length-map rest to_of) below in
    let above : name_cmp first.to (get_or rest k d).to ≡ Less = ap (name_cmp first.to) (sym (get_or-map to_of rest k d d.to below)) ∙ all k d.to many in
    apart_greater (get_or rest k d).to to (ap (name_cmp (get_or rest k d).to) (sym is) ∙ turned_less first.to (get_or rest k d).to above))

pub remove_is_without : (targets : List Target) (place : ℕ) (to : List ℕ) (d : Target) → AreTargets targets → place < length targets →
    (get_or targets place d).to ≡ to → remove targets place ≡ without_target targets to
remove_is_without [] place to d sorted within is = absurd (omega (arith, within))
remove_is_without (first ∷ rest) zero to d sorted within is =
    rw ((names first.to to).1 is) (sym (rest_stays first rest to sorted is))
remove_is_without (first ∷ rest) (suc place) to d sorted within is =
    let rest_within : place < length rest = omega (arith, within) in
    let less = before_place first rest place d to sorted rest_within is in
    rw (apart_less first.to to less) (ap (λ (others : List Target). first ∷ others)
    (remove_is_without rest place to d (sorted_tail name_cmp first.to (map to_of rest) sorted) rest_within is))

-- where the search finds no place, there is no target
pub not_there : (targets : List Target) (gap : ℕ) (to : List ℕ) → AreTargets targets → IsSearchInRange (Err gap) (length targets) →
    IsBinarySearchResult (λ (each : Target). name_cmp each.to to) targets (Err gap) → IsTrue (has_target targets to) → ⊥
not_there targets gap to sorted within found there = false≢true (found_is_has (Err gap) targets to sorted within found ∙ there)

lost_step : (test : Bool) (first : Target) (rest : List Target) (to : List ℕ) → same_name first.to to ≡ test →
    end_of (without_target rest to) to ≡ None → end_of (without_target (first ∷ rest) to) to ≡ None
lost_step true first rest to e further = rw e further
lost_step false first rest to e further = rw e (by_first false first (without_target rest to) to e ∙ further)

pub end_taken : (targets : List Target) (to : List ℕ) → end_of (without_target targets to) to ≡ None
end_taken [] to = refl
end_taken (first ∷ rest) to = lost_step (same_name first.to to) first rest to refl (end_taken rest to)

left_step : (test : Bool) (first : Target) (rest : List Target) (to other : List ℕ) → same_name first.to to ≡ test → other ≢ to →
    end_of (without_target rest to) other ≡ end_of rest other → end_of (without_target (first ∷ rest) to) other ≡ end_of (first ∷ rest) other
left_step true first rest to other e apart further =
    let here : same_name first.to other ≡ false = apart_names first.to other (λ same. apart (sym same ∙ (names first.to to).0 e)) in
    rw e (further ∙ sym (by_first false first rest other here))
left_step false first rest to other e apart further =
    let test = same_name first.to other in
    rw e (by_first test first (without_target rest to) other refl
    ∙ (ap (first_end test first.until) further ∙ sym (by_first test first rest other refl)))

pub end_left : (targets : List Target) (to other : List ℕ) → other ≢ to → end_of (without_target targets to) other ≡ end_of targets other
end_left [] to other apart = refl
end_left (first ∷ rest) to other apart = left_step (same_name first.to to) first rest to other refl apart (end_left rest to other apart)

pub take_in_order : (targets : List Target) (to : List ℕ) → AreTargets targets → AreTargets (without_target targets to)
take_in_order targets to sorted = kept_in_order name_cmp to_of (λ (each : Target). not (same_name each.to to)) targets sorted

-- a row without the name has no end for it
pub none_to_take : (targets : List Target) (to : List ℕ) → false ≡ has_target targets to → end_of targets to ≡ None
none_to_take targets to e = none_from (end_of targets to) (e ∙ has_is_end targets to)
  where
    none_from : (found : Option ℕ) → false ≡ is_some found → found ≡ None
    none_from None e = refl
    none_from (Some n) e = absurd (false≢true e)

-- the only target of a row is the one of the name
pub only_target : (targets : List Target) (to : List ℕ) → IsTrue (has_target targets to) → length targets ≤ 1 → [] ≡ without_target targets to
only_target [] to there few = refl
only_target (first ∷ second ∷ rest) to there few = absurd (omega (arith, few))
only_target (first ∷ []) to there few = one (same_name first.to to) refl
  where
    one : (test : Bool) → same_name first.to to ≡ test → [] ≡ without_target (first ∷ []) to
    one true e = rw e refl
    one false e = absurd (false≢true (ap (λ (test : Bool). test || false) (sym e) ∙ there))

-- ---- the ends of all pairs

at_source : (test : Bool) (old new : List Answer) (from to : List ℕ) (other : Pair) → same_name other.from from ≡ test →
    ((name : List ℕ) → name ≢ to → end_of (row_of new from) name ≡ end_of (row_of old from) name) →
    KeepsOtherRows from old new → other ≢ pair from to → until_of new other ≡ until_of old other
at_source false old new from to other e row kept apart =
    ends_in_rows new other
    ∙ (ap (λ (row : List Target). end_of row other.to) (kept other.from (λ is. false≢true (sym e ∙ (names other.from from).1 is)))
    ∙ sym (ends_in_rows old other))
at_source true old new from to other e row kept apart =
    let is : other.from ≡ from = (names other.from from).0 e in
    ends_in_rows new other
    ∙ (ap (λ (name : List ℕ). end_of (row_of new name) other.to) is
    ∙ (row other.to (λ same. apart (λ i. record { from = is i; to = same i }))
    ∙ (ap (λ (name : List ℕ). end_of (row_of old name) other.to) (sym is)
    ∙ sym (ends_in_rows old other))))

-- where one target of a row changes, so does one pair
pub other_pairs : (old new : List Answer) (from to : List ℕ) →
    ((name : List ℕ) → name ≢ to → end_of (row_of new from) name ≡ end_of (row_of old from) name) →
    KeepsOtherRows from old new → KeepsOtherPairs (pair from to) old new
other_pairs old new from to row kept other apart = at_source (same_name other.from from) old new from to other refl row kept apart

pub put_end : (old new : List Answer) (from to : List ℕ) (until : ℕ) → row_of new from ≡ with_target (row_of old from) to until →
    until_of new (pair from to) ≡ Some until
put_end old new from to until is =
    ends_in_rows new (pair from to) ∙ (ap (λ (row : List Target). end_of row to) is ∙ end_put (row_of old from) to until)

pub put_others : (old new : List Answer) (from to : List ℕ) (until : ℕ) → row_of new from ≡ with_target (row_of old from) to until →
    KeepsOtherRows from old new → KeepsOtherPairs (pair from to) old new
put_others old new from to until is kept = other_pairs old new from to
    (λ name apart. ap (λ (row : List Target). end_of row name) is ∙ end_beside (row_of old from) to until name apart) kept

pub take_end : (old new : List Answer) (from to : List ℕ) → row_of new from ≡ without_target (row_of old from) to →
    until_of new (pair from to) ≡ None
take_end old new from to is =
    ends_in_rows new (pair from to) ∙ (ap (λ (row : List Target). end_of row to) is ∙ end_taken (row_of old from) to)

pub take_others : (old new : List Answer) (from to : List ℕ) → row_of new from ≡ without_target (row_of old from) to →
    KeepsOtherRows from old new → KeepsOtherPairs (pair from to) old new
take_others old new from to is kept = other_pairs old new from to
    (λ name apart. ap (λ (row : List Target). end_of row name) is ∙ end_left (row_of old from) to name apart) kept

-- ---- one target, and outcomes

-- one target is in order
pub one_in_order : (only : Target) → AreTargets (only ∷ [])
one_in_order only = sorted_cons name_cmp only.to [] (All-nil (λ (name : List ℕ). name_cmp only.to name ≡ Less)) (sorted_nil name_cmp)

-- what follows from what stands after a call
pub then_ok : {X E P Q : Type 0} (result : Result X E) → OnOk result P → (P → Q) → OnOk result Q
then_ok (Ok x) p gives = gives p
then_ok (Err e) p gives = tt

-- the same from two facts
pub both_ok : {X E P Q G : Type 0} (result : Result X E) → OnOk result P → OnOk result Q → (P → Q → G) → OnOk result G
both_ok (Ok x) p q gives = gives p q
both_ok (Err e) p q gives = tt

-- what follows from what stands after an error
pub then_err : {X E P Q : Type 0} (result : Result X E) → OnErr result P → (P → Q) → OnErr result Q
then_err (Ok x) p gives = tt
then_err (Err e) p gives = gives p
