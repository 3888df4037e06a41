-- How many tuples are saved: at most as many as there are entries.
use Rattle.std.proofs.Common.{◌≡◌, ℕ, suc, ◌<◌, ◌≤◌, max, Bool, true, false, ◌==◌, List, [], ◌∷◌}
use Rattle.std.proofs.Common.{◌++◌, length, map, fold, refl, ap, ◌∙◌, ◌⊎◌, inl, inr, ⊎_elim, arith, length-append}
use Rattle.std.specs.Prelude.{Contains, if◌then◌else◌}
use Rattle.std.proofs.lemmas.Bool.{both_ways, or_parts, eq-eqb, cases_lt}
use Rattle.rpq_base.specs.TupleValue.{TupleValue}
use Rattle.rpq_base.specs.declared.data.Entry.{Entry}
use Rattle.rpq_base.proofs.Members.{cons_members, none_in}
use Rattle.rpq_model.specs.Window.{clock}
use Rattle.rpq_model.specs.Query.{Query}
use Rattle.saved_window.specs.Saved.{is_kept, kept_tuples, clock_tick, has_time, saved}
use Rattle.saved_window.proofs.Kept.{map_members}

-- ---- the time that the clock has

-- the greatest of some times and another number is this number or one of the times
greatest_is_one : (times : List ℕ) (first : ℕ) → (fold max first times ≡ first) ⊎ Contains times (fold max first times)
greatest_is_one [] first = inl refl
greatest_is_one (time ∷ times) first =
    let greatest = fold max first (time ∷ times) in
    let further = greatest_is_one times (max first time) in
    ⊎_elim
    (λ is. ⊎_elim
    (λ less. inr ((cons_members time times greatest).1 (inl (omega (arith, is, less)))))
    (λ no_less. inl (omega (arith, is, no_less)))
    (cases_lt first time))
    (λ later. inr ((cons_members time times greatest).1 (inr later)))
    further

-- an entry of a history has the time of its clock, if it has entries
has_its_clock : (first : Entry) (later : List Entry) → (entry : Entry) × Contains (first ∷ later) entry × (entry.tuple.time ≡ clock (first ∷ later))
has_its_clock first later =
    let now = clock (first ∷ later) in
    let times = map (λ (each : Entry). each.tuple.time) (first ∷ later) in
    let there : Contains times now = ⊎_elim
    (λ is. (cons_members first.tuple.time (map (λ (each : Entry). each.tuple.time) later) now).1 (inl (omega (arith, is))))
    (λ further. (cons_members first.tuple.time (map (λ (each : Entry). each.tuple.time) later) now).1 (inr further))
    (greatest_is_one (map (λ (each : Entry). each.tuple.time) later) (max 0 first.tuple.time)) in
    let found = map_members (λ (each : Entry). each.tuple.time) (first ∷ later) now there in
    (found.0, found.1, found.2)

-- ---- how many are kept

chosen_few : (test : Bool) (tuple : TupleValue) (kept : List TupleValue) (count : ℕ) → length kept ≤ count →
    length (if test then tuple ∷ kept else kept) ≤ suc count
chosen_few true tuple kept count few = omega (arith, few)
chosen_few false tuple kept count few = omega (arith, few)

pub kept_few : (entries : List Entry) (queries : List Query) (now : ℕ) → length (kept_tuples queries now entries) ≤ length entries
unfolding kept_tuples
kept_few [] queries now = omega arith
kept_few (entry ∷ later) queries now =
    chosen_few (is_kept queries now entry later) entry.tuple (kept_tuples queries now later) (length later) (kept_few later queries now)

-- one fewer where an entry has a time that no kept tuple has
chosen_fewer : (test : Bool) (now : ℕ) (first entry : Entry) (kept : List TupleValue) (later : List Entry) →
    length kept ≤ length later → (has_time now kept ≡ false → Contains later entry → length kept < length later) →
    has_time now (if test then first.tuple ∷ kept else kept) ≡ false → (first ≡ entry) ⊎ Contains later entry → entry.tuple.time ≡ now →
    length (if test then first.tuple ∷ kept else kept) < suc (length later)
chosen_fewer true now first entry kept later few fewer none either is =
    let parts = or_parts (first.tuple.time == now) (has_time now kept) none in
    ⊎_elim
    (λ here. absurd (both_ways (first.tuple.time == now) parts.0
    (eq-eqb first.tuple.time now (ap (λ (each : Entry). each.tuple.time) here ∙ is))))
    (λ there. let less = fewer parts.1 there in omega (arith, less))
    either
chosen_fewer false now first entry kept later few fewer none either is = omega (arith, few)

kept_fewer : (entries : List Entry) (queries : List Query) (now : ℕ) (entry : Entry) →
    has_time now (kept_tuples queries now entries) ≡ false → Contains entries entry → entry.tuple.time ≡ now →
    length (kept_tuples queries now entries) < length entries
unfolding kept_tuples
kept_fewer [] queries now entry none member is = absurd (none_in entry member)
kept_fewer (first ∷ later) queries now entry none member is =
    chosen_fewer (is_kept queries now first later) now first entry (kept_tuples queries now later) later (kept_few later queries now)
    (λ rest there. kept_fewer later queries now entry rest there is) none ((cons_members first later entry).0 member) is

-- ---- how many are saved

pub saved_few : (history : List Entry) (queries : List Query) → length (saved queries history) ≤ length history
saved_few [] queries = omega arith
saved_few (first ∷ later) queries = by_test (has_time now kept) refl
  where
    now : ℕ
    now = clock (first ∷ later)

    kept : List TupleValue
    kept = kept_tuples queries now (first ∷ later)

    by_test : (test : Bool) → has_time now kept ≡ test → length (if test then kept else kept ++ clock_tick now ∷ []) ≤ length (first ∷ later)
    by_test true has = kept_few (first ∷ later) queries now
    by_test false none =
        let there = has_its_clock first later in
        let less = kept_fewer (first ∷ later) queries now there.0 none there.1 there.2 in
        omega (arith, length-append kept (clock_tick now ∷ []), less)
