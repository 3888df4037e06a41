-- The clock of what is saved.
use Rattle.std.proofs.Common.{◌≡◌, ℕ, ◌≤◌, max, Bool, true, false, ◌==◌, List, [], ◌∷◌, ◌++◌}
use Rattle.std.proofs.Common.{map, fold, refl, sym, ap, subst, ◌∙◌, ◌⊎◌, inl, inr, ⊎_elim, arith}
use Rattle.std.specs.Prelude.{All, Contains, slice_index_or, if◌then◌else◌}
use Rattle.std.proofs.lemmas.Bool.{eqb-true}
use Rattle.std.proofs.lemmas.List.{map-append}
use Rattle.std.proofs.lemmas.List.Elements.{All-head, All-tail, All-map, All-push, Contains-get_or, Contains-push}
use Rattle.std.proofs.lemmas.Simd.{map-map}
use Rattle.rpq_base.proofs.Members.{cons_members, none_in}
use Rattle.rpq_base.specs.TupleValue.{TupleValue}
use Rattle.rpq_base.specs.declared.data.Entry.{Entry}
use Rattle.rpq_model.proofs.Clocks.{at_most_clock}
use Rattle.rpq_model.specs.Window.{clock}
use Rattle.rpq_model.specs.Query.{Query}
use Rattle.rpq_model.specs.WindowLaws.{LiveByPlaces}
use Rattle.saved_window.specs.Saved.{kept_tuples, clock_tick, has_time, with_clock, saved, first_stream}
use Rattle.saved_window.proofs.Kept.{passes_any, mapped_member, kept_is_live}

-- a time that none exceeds and that is among them is the greatest
greatest_is : (times : List ℕ) (first top : ℕ) → first ≤ top → All (λ time. time ≤ top) times → (first ≡ top) ⊎ Contains times top →
    fold max first times ≡ top
greatest_is [] first top below all there = ⊎_elim (λ is. is) (λ member. absurd (none_in top member)) there
greatest_is (time ∷ times) first top below all there =
    let here : time ≤ top = All-head (λ (each : ℕ). each ≤ top) time times all in
    greatest_is times (max first time) top (omega (arith, below, here)) (All-tail (λ (each : ℕ). each ≤ top) time times all)
    (⊎_elim
    (λ is. inl (omega (arith, is, here)))
    (λ member. ⊎_elim (λ is. inl (omega (arith, is, below))) (λ later. inr later) ((cons_members time times top).0 member))
    there)

-- the time of each kept tuple is at most the clock
kept_at_most : (history : List Entry) (queries : List Query) (tuple : TupleValue) → LiveByPlaces →
    Contains (kept_tuples queries (clock history) history) tuple → tuple.time ≤ clock history
kept_at_most history queries tuple by_places member =
    let kept = kept_is_live history queries (clock history) 0 tuple member in
    let is = (by_places kept.query.window (clock history) history kept.live).0 kept.member in
    subst (λ (each : TupleValue). each.time ≤ clock history) kept.is (at_most_clock history kept.live.place kept.live.entry 0 is.1.undeleted.there)

-- the times, with a tick at the clock where none of them is at it, have the clock as the greatest
times_with_clock : (tuples : List TupleValue) (now : ℕ) → ((tuple : TupleValue) → Contains tuples tuple → tuple.time ≤ now) →
    fold max 0 (map (λ (tuple : TupleValue). tuple.time) (with_clock now tuples)) ≡ now
times_with_clock tuples now most = by_test (has_time now tuples) refl
  where
    time_of : TupleValue → ℕ
    time_of tuple = tuple.time

    all : All (λ time. time ≤ now) (map time_of tuples)
    all =
        All-map (λ (time : ℕ). time ≤ now) time_of tuples
        (λ k d below. most (slice_index_or tuples k d) (Contains-get_or tuples k d below))

    by_test : (test : Bool) → has_time now tuples ≡ test →
        fold max 0 (map (λ (tuple : TupleValue). tuple.time) (if test then tuples else tuples ++ clock_tick now ∷ [])) ≡ now
    by_test true is =
        let found = passes_any (λ (tuple : TupleValue). tuple.time == now) tuples is in
        greatest_is (map time_of tuples) 0 now (omega arith) all
        (inr (subst (Contains (map time_of tuples)) (eqb-true found.0.time now found.2) (mapped_member time_of tuples found.0 found.1)))
    by_test false is =
        greatest_is (map time_of (tuples ++ clock_tick now ∷ [])) 0 now (omega arith)
        (subst (All (λ (time : ℕ). time ≤ now)) (sym (map-append time_of tuples (clock_tick now ∷ [])))
        (All-push (λ (time : ℕ). time ≤ now) (map time_of tuples) now all (omega arith)))
        (inr (mapped_member time_of (tuples ++ clock_tick now ∷ []) (clock_tick now) (Contains-push tuples (clock_tick now))))

-- what is saved of a history has its clock
pub clock_saved : (history : List Entry) (queries : List Query) → LiveByPlaces → clock (first_stream (saved queries history)) ≡ clock history
clock_saved [] queries by_places = refl
clock_saved (entry ∷ later) queries by_places =
    let history = entry ∷ later in
    let now = clock history in
    ap (fold max 0) (map-map (λ (each : Entry). each.tuple.time) (λ (tuple : TupleValue). record { stream = 1; tuple = tuple }) (saved queries history))
    ∙ times_with_clock (kept_tuples queries now history) now (λ tuple. kept_at_most history queries tuple by_places)
