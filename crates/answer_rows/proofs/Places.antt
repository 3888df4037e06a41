-- The places of targets in their order.
use Rattle.std.proofs.Common.{◌≡◌, ℕ, zero, suc, ◌+◌, ◌<◌, Bool, true, false, List, [], ◌∷◌, length, get_or, map, Some, None, Result, Ok, Err, refl, sym, ap, ◌∙◌, ⊎_elim, arith}
use Rattle.std.specs.Prelude.{All}
use Rattle.std.specs.List.{find}
use Rattle.std.specs.List.Sorted.{IsSortedBy, IsBinarySearchResult, IsSearchInRange}
use Rattle.std.specs.Ordering.{is_lt, ordering_reverse}
use Rattle.std.specs.Option.{option_map, is_some}
use Rattle.std.specs.Result.{is_ok}
use Rattle.std.specs.declared.cmp.Ordering.TheVariants.{Less, Equal, Greater}
use Rattle.std.proofs.lemmas.Bool.{false_from_ne_true, cases_lt}
use Rattle.std.proofs.lemmas.Cmp.{tied_itself, nat_list_cmp_total}
use Rattle.std.proofs.lemmas.List.{get_or-map, length-map}
use Rattle.std.proofs.lemmas.List.Elements.{All-head, All-tail, All-from_recursion}
use Rattle.std.proofs.lemmas.List.Sorted.{searchable_from_sorted}
use Rattle.std.proofs.lemmas.Map.Keys.{Less-from_sorted, sorted_head, sorted_tail}
use Rattle.std.proofs.lemmas.Map.Lookups.{exact_bytes}
use Rattle.rpq_base.specs.Order.{name_cmp}
use Rattle.rpq_base.specs.Same.{same_name}
use Rattle.rpq_base.proofs.Equality.{names}
use Rattle.answer_rows.specs.Answers.{AreTargets, end_of, has_target}
use Rattle.answer_rows.specs.declared.target.Target.{Target}

-- the name of a target
abbrev pub to_of : Target → List ℕ
to_of target = target.to

-- names that the order tells apart aren't equal
pub apart_less : (first second : List ℕ) → name_cmp first second ≡ Less → same_name first second ≡ false
apart_less first second less = false_from_ne_true (same_name first second) (λ e.
    let tied : name_cmp first second ≡ Equal = ap (name_cmp first) (sym ((names first second).0 e)) ∙ tied_itself nat_list_cmp_total first in
    cc)

pub apart_greater : (first second : List ℕ) → name_cmp first second ≡ Greater → same_name first second ≡ false
apart_greater first second greater = false_from_ne_true (same_name first second) (λ e.
    let tied : name_cmp first second ≡ Equal = ap (name_cmp first) (sym ((names first second).0 e)) ∙ tied_itself nat_list_cmp_total first in
    cc)

-- ---- what a search by name finds

-- in strict order no target is below the one before it
pub none_falls : (targets : List Target) → AreTargets targets → IsSortedBy (λ x y. is_lt (name_cmp (to_of x) (to_of y))) targets
none_falls targets sorted = λ k d low high.
    let many : k + 1 < length (map to_of targets) = rw (length-map targets to_of) high in
    let less = Less-from_sorted name_cmp (map to_of targets) k (k + 1) d.to sorted (omega arith) many in
    let here = get_or-map to_of targets k d d.to (omega (arith, high)) in
    let next = get_or-map to_of targets (k + 1) d d.to high in
    let below : name_cmp (get_or targets k d).to (get_or targets (k + 1) d).to ≡ Less =
    ap (λ (name : List ℕ). name_cmp name (get_or targets (k + 1) d).to) (sym here)
    ∙ (ap (name_cmp (get_or (map to_of targets) k d.to)) (sym next) ∙ less) in
    ap is_lt (nat_list_cmp_total.antisymm (get_or targets (k + 1) d).to (get_or targets k d).to ∙ ap ordering_reverse below)

-- a target before the one with a name is below it
pub before_place : (first : Target) (rest : List Target) (place : ℕ) (d : Target) (to : List ℕ) → AreTargets (first ∷ rest) →
    place < length rest → (get_or rest place d).to ≡ to → name_cmp first.to to ≡ Less
before_place first rest place d to sorted within is =
    let all = All-from_recursion (λ (name : List ℕ). name_cmp first.to name ≡ Less) (map to_of rest) (sorted_head name_cmp first.to (map to_of rest) sorted) in
    let below : name_cmp first.to (get_or (map to_of rest) place d.to) ≡ Less = all place d.to (rw (length-map rest to_of) within) in
    ap (name_cmp first.to) (sym is) ∙ (ap (name_cmp first.to) (sym (get_or-map to_of rest place d d.to within)) ∙ below)

-- the target with a name is the one at its place
found_at : (targets : List Target) (place : ℕ) (d : Target) (to : List ℕ) → AreTargets targets → place < length targets →
    (get_or targets place d).to ≡ to → find (λ (each : Target). same_name each.to to) targets ≡ Some (get_or targets place d)
found_at [] place d to sorted within is = absurd (omega (arith, within))
found_at (first ∷ rest) zero d to sorted within is = rw ((names first.to to).1 is) refl
found_at (first ∷ rest) (suc place) d to sorted within is =
    let rest_within : place < length rest = omega (arith, within) in
    rw (apart_less first.to to (before_place first rest place d to sorted rest_within is))
    (found_at rest place d to (sorted_tail name_cmp first.to (map to_of rest) sorted) rest_within is)

-- no target has the name
none_found : (targets : List Target) (to : List ℕ) → All (λ (each : Target). same_name each.to to ≡ false) targets →
    find (λ (each : Target). same_name each.to to) targets ≡ None
none_found [] to all = refl
none_found (first ∷ rest) to all =
    rw (All-head (λ (each : Target). same_name each.to to ≡ false) first rest all)
    (none_found rest to (All-tail (λ (each : Target). same_name each.to to ≡ false) first rest all))

-- where the search finds no place, no target has the name
pub all_apart : (targets : List Target) (gap : ℕ) (to : List ℕ) → AreTargets targets →
    IsBinarySearchResult (λ (each : Target). name_cmp each.to to) targets (Err gap) →
    All (λ (each : Target). same_name each.to to ≡ false) targets
all_apart targets gap to sorted found =
    let point = found (searchable_from_sorted nat_list_cmp_total to_of targets to (none_falls targets sorted)) in
    λ k d within. ⊎_elim
    (λ before. apart_less (get_or targets k d).to to (point.0 k d (omega arith) before))
    (λ after. apart_greater (get_or targets k d).to to (point.1 k d after within))
    (cases_lt k gap)

pub end_at : (targets : List Target) (place : ℕ) (d : Target) (to : List ℕ) → AreTargets targets →
    IsSearchInRange (Ok place) (length targets) →
    IsBinarySearchResult (λ (each : Target). name_cmp each.to to) targets (Ok place) →
    Some (get_or targets place d).until ≡ end_of targets to
end_at targets place d to sorted within found =
    let is : (get_or targets place d).to ≡ to = exact_bytes (get_or targets place d).to to (found d) in
    sym (ap (option_map (λ (each : Target). each.until)) (found_at targets place d to sorted within is))

pub no_end : (targets : List Target) (gap : ℕ) (to : List ℕ) → AreTargets targets →
    IsBinarySearchResult (λ (each : Target). name_cmp each.to to) targets (Err gap) → None ≡ end_of targets to
no_end targets gap to sorted found =
    sym (ap (option_map (λ (each : Target). each.until)) (none_found targets to (all_apart targets gap to sorted found)))

-- whether a target has the name is whether it has an end
has_step : (test : Bool) (first : Target) (rest : List Target) (to : List ℕ) → same_name first.to to ≡ test →
    has_target rest to ≡ is_some (end_of rest to) → has_target (first ∷ rest) to ≡ is_some (end_of (first ∷ rest) to)
has_step true first rest to e further = rw e refl
has_step false first rest to e further = rw e further

pub has_is_end : (targets : List Target) (to : List ℕ) → has_target targets to ≡ is_some (end_of targets to)
has_is_end [] to = refl
has_is_end (first ∷ rest) to = has_step (same_name first.to to) first rest to refl (has_is_end rest to)

pub found_is_has : (result : Result ℕ ℕ) (targets : List Target) (to : List ℕ) → AreTargets targets →
    IsSearchInRange result (length targets) →
    IsBinarySearchResult (λ (each : Target). name_cmp each.to to) targets result → is_ok result ≡ has_target targets to
found_is_has (Ok place) targets to sorted within found =
    ap is_some (end_at targets place (record { to = to; until = 0 }) to sorted within found) ∙ sym (has_is_end targets to)
found_is_has (Err gap) targets to sorted within found =
    ap is_some (no_end targets gap to sorted found) ∙ sym (has_is_end targets to)
