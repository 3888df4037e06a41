-- The rows that are held, as the answers that they are seen as.
use Rattle.std.proofs.Common.{◌≡◌, ℕ, ◌+◌, ◌-◌, ◌<◌, ◌≤◌, List, [], length, Option, Some, None, refl, sym, ap, subst, ◌∙◌, arith}
use Rattle.std.specs.Prelude.{IfSome, IsSome, IsTrue, sum_by}
use Rattle.std.specs.List.Sorted.{IsStrictlySortedBy}
use Rattle.std.specs.Map.{keys_of, values_of, lookup, remove_entry}
use Rattle.std.specs.BTreeMap.{insert_entry}
use Rattle.std.specs.Option.{unwrap_or, option_map}
use Rattle.std.proofs.lemmas.Bool.{false≢true}
use Rattle.std.proofs.lemmas.Cmp.{nat_list_cmp_total}
use Rattle.std.proofs.lemmas.List.Elements.{All-weaker}
use Rattle.std.proofs.lemmas.Map.{keys-set_value}
use Rattle.std.proofs.lemmas.Map.Entries.{sum_by-remove_entry, sum_by-set_value, sum_by-insert_entry}
use Rattle.std.proofs.lemmas.Map.Views.{All-values-insert_entry, All-values-set_value, All-map-remove_entry, IfSome-lookup_from_All}
use Rattle.rpq_base.specs.Order.{name_cmp}
use Rattle.shared_map.proofs.Order.{insert_in_order, remove_in_order}
use Rattle.answer_rows.specs.Answers.{Answer, AreRows, AreTargets, KeepsOtherRows, has_target, row_of}
use Rattle.answer_rows.specs.BySource.{BySource, answers, held_row, with_row, IsHeldRow, AreHeld}
use Rattle.answer_rows.specs.RowEdits.{with_target}
use Rattle.answer_rows.specs.declared.target.Target.{Target}
use Rattle.answer_rows.proofs.Edited.{put_in_order}
use Rattle.answer_rows.proofs.Lookups.{at, put_here, put_beside, set_here, set_beside, gone_here, gone_beside}
use Rattle.answer_rows.proofs.Sources.{row_is_held, answers_sorted}

-- the row that is found, or no targets
abbrev row_in : Option (List Target) → List Target
row_in found = unwrap_or found []

-- ---- the row of a source

-- the row that is held of a source is its row, as the answers are seen
pub row_seen : (sources : BySource) (view : List Answer) (from : List ℕ) → IsStrictlySortedBy name_cmp (keys_of sources) →
    answers sources ≡ view → held_row sources from ≡ row_of view from
row_seen sources view from sorted is = sym (row_is_held sources from sorted) ∙ ap (λ (all : List Answer). row_of all from) is

-- a row that is found is the source's
pub row_some : (sources : BySource) (view : List Answer) (from : List ℕ) (row : List Target) →
    IsStrictlySortedBy name_cmp (keys_of sources) → answers sources ≡ view → Some row ≡ lookup (at from) sources →
    row ≡ row_of view from
row_some sources view from row sorted is found = ap row_in found ∙ row_seen sources view from sorted is

-- where none is found, the source has no targets
pub row_none : (sources : BySource) (view : List Answer) (from : List ℕ) → IsStrictlySortedBy name_cmp (keys_of sources) →
    answers sources ≡ view → None ≡ lookup (at from) sources → row_of view from ≡ []
row_none sources view from sorted is found = sym (row_seen sources view from sorted is) ∙ sym (ap row_in found)

in_order_if : (found : Option (List Target)) → IfSome found IsHeldRow → AreTargets (row_in found)
unfolding IsStrictlySortedBy
in_order_if None held = tt
in_order_if (Some row) held = held.sorted

-- the row that is held of a source is in order
pub held_in_order : (sources : BySource) (count : ℕ) (from : List ℕ) → AreHeld sources count → AreTargets (held_row sources from)
held_in_order sources count from held =
    in_order_if (lookup (at from) sources) (IfSome-lookup_from_All IsHeldRow (at from) sources held.rows)

-- so is the row of a source
pub row_in_order : (sources : BySource) (count : ℕ) (view : List Answer) (from : List ℕ) → AreHeld sources count →
    answers sources ≡ view → AreTargets (row_of view from)
row_in_order sources count view from held is =
    subst AreTargets (row_seen sources view from held.in_order is) (held_in_order sources count from held)

-- a row that is found has a target
pub found_is_some : (sources : BySource) (count : ℕ) (from : List ℕ) (row : List Target) → AreHeld sources count →
    Some row ≡ lookup (at from) sources → 0 < length row
found_is_some sources count from row held is =
    (subst (λ (found : Option (List Target)). IfSome found IsHeldRow) (sym is)
    (IfSome-lookup_from_All IsHeldRow (at from) sources held.rows)).some

-- answers that are held are in order
pub held_are_rows : (sources : BySource) (count : ℕ) → AreHeld sources count → AreRows (answers sources)
held_are_rows sources count held =
    answers_sorted sources held.in_order (All-weaker IsHeldRow AreTargets (λ row is. is.sorted) (values_of sources) held.rows)

-- ---- a source that has a row

some_if : (found : Option (List Target)) → 0 < length (row_in found) → IsSome found
some_if None some = absurd (omega (arith, some))
some_if (Some row) some = refl

-- a source with a target is found
pub target_is_found : (sources : BySource) (from : List ℕ) → 0 < length (held_row sources from) → IsSome (lookup (at from) sources)
target_is_found sources from some = some_if (lookup (at from) sources) some

some_where : (found : Option (List Target)) (to : List ℕ) → IsTrue (has_target (row_in found) to) → IsSome found
some_where None to there = absurd (false≢true there)
some_where (Some row) to there = refl

pub name_is_found : (sources : BySource) (from to : List ℕ) → IsTrue (has_target (held_row sources from) to) →
    IsSome (lookup (at from) sources)
name_is_found sources from to there = some_where (lookup (at from) sources) to there

-- ---- the count

lost_length : (found : Option (List Target)) → unwrap_or (option_map (λ (row : List Target). length row) found) 0 ≡ length (row_in found)
lost_length None = refl
lost_length (Some row) = refl

-- the targets of the row that is answered are as many as those that are lost
pub lost_is : (sources : BySource) (from : List ℕ) (old : Option (List Target)) (count : ℕ) → old ≡ lookup (at from) sources →
    count ≡ length (unwrap_or old []) → length (held_row sources from) ≡ count
lost_is sources from old count is counted = sym (counted ∙ ap (λ (found : Option (List Target)). length (row_in found)) is)

-- a row has at most as many targets as there are pairs
pub lost_fits : (sources : BySource) (count : ℕ) (from : List ℕ) → AreHeld sources count → length (held_row sources from) ≤ count
lost_fits sources count from held =
    let all = sum_by-remove_entry (λ (row : List Target). length row) (at from) sources in
    let same = lost_length (lookup (at from) sources) in
    let counted = held.counted in
    omega arith

-- ---- a source taken away

pub held_without : (sources : BySource) (count : ℕ) (from : List ℕ) → AreHeld sources count →
    AreHeld (remove_entry (at from) sources) (count - length (held_row sources from))
held_without sources count from held =
    let all = sum_by-remove_entry (λ (row : List Target). length row) (at from) sources in
    let same = lost_length (lookup (at from) sources) in
    let counted = held.counted in
    record {
      in_order = remove_in_order name_cmp (at from) sources held.in_order;
      rows = All-map-remove_entry (at from) (λ (source : List ℕ × List Target). source.1) IsHeldRow sources held.rows;
      counted = omega arith;
    }

pub row_after_taking : (sources : BySource) (from : List ℕ) → IsStrictlySortedBy name_cmp (keys_of sources) →
    row_of (answers (remove_entry (at from) sources)) from ≡ []
row_after_taking sources from sorted =
    row_is_held (remove_entry (at from) sources) from (remove_in_order name_cmp (at from) sources sorted)
    ∙ ap row_in (gone_here sources from sorted)

pub others_after_taking : (sources : BySource) (view : List Answer) (from : List ℕ) → IsStrictlySortedBy name_cmp (keys_of sources) →
    answers sources ≡ view → KeepsOtherRows from view (answers (remove_entry (at from) sources))
others_after_taking sources view from sorted is other apart =
    row_is_held (remove_entry (at from) sources) other (remove_in_order name_cmp (at from) sources sorted)
    ∙ (ap row_in (gone_beside sources from other apart) ∙ row_seen sources view other sorted is)

-- ---- a source put in

pub held_with : (sources : BySource) (count : ℕ) (from : List ℕ) (row : List Target) → AreHeld sources count → IsHeldRow row →
    AreHeld (insert_entry name_cmp sources from row) (count - length (held_row sources from) + length row)
held_with sources count from row held is =
    let all = sum_by-insert_entry (λ (row : List Target). length row) nat_list_cmp_total sources from row held.in_order in
    let same = lost_length (lookup (at from) sources) in
    let fits = lost_fits sources count from held in
    let counted = held.counted in
    record {
      in_order = insert_in_order nat_list_cmp_total sources from row held.in_order;
      rows = All-values-insert_entry name_cmp from row IsHeldRow sources held.rows is;
      counted = omega arith;
    }

pub row_after_putting : (sources : BySource) (from : List ℕ) (row : List Target) → IsStrictlySortedBy name_cmp (keys_of sources) →
    row_of (answers (insert_entry name_cmp sources from row)) from ≡ row
row_after_putting sources from row sorted =
    row_is_held (insert_entry name_cmp sources from row) from (insert_in_order nat_list_cmp_total sources from row sorted)
    ∙ ap row_in (put_here sources from row)

pub others_after_putting : (sources : BySource) (view : List Answer) (from : List ℕ) (row : List Target) →
    IsStrictlySortedBy name_cmp (keys_of sources) → answers sources ≡ view →
    KeepsOtherRows from view (answers (insert_entry name_cmp sources from row))
others_after_putting sources view from row sorted is other apart =
    row_is_held (insert_entry name_cmp sources from row) other (insert_in_order nat_list_cmp_total sources from row sorted)
    ∙ (ap row_in (put_beside sources from row other apart) ∙ row_seen sources view other sorted is)

-- ---- another row of a source that has one

set_in_order : (sources : BySource) (from : List ℕ) (row : List Target) → IsStrictlySortedBy name_cmp (keys_of sources) →
    IsStrictlySortedBy name_cmp (keys_of (with_row sources from row))
set_in_order sources from row sorted = subst (IsStrictlySortedBy name_cmp) (sym (keys-set_value (at from) sources row)) sorted

set_sum : (sources : BySource) (from : List ℕ) (row : List Target) (found : Option (List Target)) →
    lookup (at from) sources ≡ found → IsSome found →
    sum_by (λ row. length row) (values_of (with_row sources from row)) + length (row_in found)
    ≡ sum_by (λ row. length row) (values_of sources) + length row
set_sum sources from row None is there = absurd (false≢true there)
set_sum sources from row (Some was) is there = sum_by-set_value (λ (row : List Target). length row) (at from) sources was row is

pub held_set : (sources : BySource) (count after : ℕ) (from : List ℕ) (row : List Target) → AreHeld sources count → IsHeldRow row →
    IsSome (lookup (at from) sources) → after + length (held_row sources from) ≡ count + length row →
    AreHeld (with_row sources from row) after
held_set sources count after from row held is there lengths =
    let sums = set_sum sources from row (lookup (at from) sources) refl there in
    let counted = held.counted in
    record {
      in_order = set_in_order sources from row held.in_order;
      rows = All-values-set_value (at from) IsHeldRow sources row held.rows is;
      counted = omega arith;
    }

pub row_after_setting : (sources : BySource) (from : List ℕ) (row : List Target) → IsStrictlySortedBy name_cmp (keys_of sources) →
    IsSome (lookup (at from) sources) → row_of (answers (with_row sources from row)) from ≡ row
row_after_setting sources from row sorted there =
    row_is_held (with_row sources from row) from (set_in_order sources from row sorted)
    ∙ ap row_in (set_here sources from row there)

pub others_after_setting : (sources : BySource) (view : List Answer) (from : List ℕ) (row : List Target) →
    IsStrictlySortedBy name_cmp (keys_of sources) → answers sources ≡ view →
    KeepsOtherRows from view (answers (with_row sources from row))
others_after_setting sources view from row sorted is other apart =
    row_is_held (with_row sources from row) other (set_in_order sources from row sorted)
    ∙ (ap row_in (set_beside sources from row other apart) ∙ row_seen sources view other sorted is)

-- ---- a target put into a source's row

pub held_put : (sources : BySource) (count after : ℕ) (from to : List ℕ) (until gained : ℕ) → AreHeld sources count →
    0 < length (held_row sources from) →
    length (with_target (held_row sources from) to until) ≡ length (held_row sources from) + gained →
    after ≡ count + gained → AreHeld (with_row sources from (with_target (held_row sources from) to until)) after
held_put sources count after from to until gained held some long more =
    let row = held_row sources from in
    let is : IsHeldRow (with_target row to until) = record {
      some = omega (arith, long, some);
      sorted = put_in_order row to until (held_in_order sources count from held);
    } in
    held_set sources count after from (with_target row to until) held is (target_is_found sources from some) (omega (arith, long, more))

pub row_after_put : (sources : BySource) (view : List Answer) (from to : List ℕ) (until : ℕ) →
    IsStrictlySortedBy name_cmp (keys_of sources) → answers sources ≡ view → 0 < length (row_of view from) →
    row_of (answers (with_row sources from (with_target (held_row sources from) to until))) from
    ≡ with_target (row_of view from) to until
row_after_put sources view from to until sorted is some =
    let seen = row_seen sources view from sorted is in
    row_after_setting sources from (with_target (held_row sources from) to until) sorted
    (target_is_found sources from (subst (λ (row : List Target). 0 < length row) (sym seen) some))
    ∙ ap (λ (row : List Target). with_target row to until) seen
