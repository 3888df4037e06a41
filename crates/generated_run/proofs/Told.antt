-- Events that are told one list after another.
use Rattle.std.proofs.Common.{◌≡◌, ℕ, ◌+◌, ◌<◌, Bool, true, false, not, List, [], ◌∷◌, ◌++◌, length, take, drop}
use Rattle.std.proofs.Common.{get_or}
use Rattle.std.proofs.Common.{refl, sym, ap, ◌∙◌, arith}
use Rattle.std.specs.Prelude.{cond, slice_get, Some}
use Rattle.std.proofs.lemmas.Grind.{flat_map-append}
use Rattle.std.proofs.lemmas.List.{append-nil, map-append, take_more, take-append-drop}
use Rattle.std.proofs.lemmas.List.Sums.{sum_by-append}
use Rattle.std.proofs.lemmas.Option.{get_or_from_slice_get, slice_get_within}
use Rattle.rpq_base.specs.declared.data.Event.{Event}
use Rattle.entry_steps.specs.Steps.{StepValue, events_of}
use Rattle.generated_run.specs.Summary.{all_of, additions, retractions}
use Rattle.generated_run.specs.Totals.{TotalsValue, HasCounted}

-- ---- the lists of events

-- the events of some entries, and of those behind them
pub all-append : (first later : List (List Event)) →
    all_of (first ++ later) ≡ all_of first ++ all_of later
all-append first later = flat_map-append (λ (own : List Event). own) first later

-- the events of some steps, and of those behind them
pub events_append : (first later : List StepValue) →
    all_of (events_of (first ++ later)) ≡ all_of (events_of first) ++ all_of (events_of later)
events_append first later =
    ap all_of (map-append (λ (step : StepValue). step.events) first later)
    ∙ all-append (events_of first) (events_of later)

-- the events of the steps up to a place and of the one at it
module _ (steps : List StepValue) (i : ℕ) (step : StepValue) (below : i < length steps)
    (is : step ≡ get_or steps i step) where
  here : take (i + 1) steps ≡ take i steps ++ step ∷ []
  here =
      take_more steps i step below
      ∙ ap (λ (one : StepValue). take i steps ++ one ∷ []) (sym is)

  pub all_at : all_of (events_of (take (i + 1) steps))
      ≡ all_of (events_of (take i steps)) ++ step.events
  all_at =
      ap (λ (each : List StepValue). all_of (events_of each)) here
      ∙ (events_append (take i steps) (step ∷ [])
      ∙ ap (λ (events : List Event). all_of (events_of (take i steps)) ++ events)
      (append-nil step.events))

  -- and all behind it
  pub all_cut : all_of (events_of steps)
      ≡ (all_of (events_of (take i steps)) ++ step.events)
      ++ all_of (events_of (drop (i + 1) steps))
  all_cut =
      ap (λ (each : List StepValue). all_of (events_of each))
      (sym (take-append-drop (i + 1) steps))
      ∙ (events_append (take (i + 1) steps) (drop (i + 1) steps)
      ∙ ap (λ (events : List Event). events ++ all_of (events_of (drop (i + 1) steps))) all_at)

-- ---- the counts

pub additions-append : (first later : List Event) →
    additions (first ++ later) ≡ additions first + additions later
additions-append first later = sum_by-append _ first later

pub retractions-append : (first later : List Event) →
    retractions (first ++ later) ≡ retractions first + retractions later
retractions-append first later = sum_by-append _ first later

-- each event adds or retracts
pub added_or_retracted : (events : List Event) →
    additions events + retractions events ≡ length events
added_or_retracted [] = refl
added_or_retracted (event ∷ events) =
    omega (
      arith,
      added_or_retracted events,
      additions-append (event ∷ []) events,
      retractions-append (event ∷ []) events,
      one event.added,
    )
  where
    one : (added : Bool) → cond added 1 0 + cond (not added) 1 0 ≡ 1
    one true = refl
    one false = refl

-- the events up to a place and the one at it
pub additions_more : (events : List Event) (place : ℕ) (own : Event) →
    slice_get events place ≡ Some own →
    additions (take (place + 1) events) ≡ additions (take place events) + cond own.added 1 0
additions_more events place own is =
    let here : take (place + 1) events ≡ take place events ++ own ∷ [] =
    take_more events place own (slice_get_within events place own is)
    ∙ ap (λ (event : Event). take place events ++ event ∷ [])
    (get_or_from_slice_get events place own own is) in
    omega (
      arith,
      ap additions here,
      additions-append (take place events) (own ∷ []),
    )

-- some entries are counted, and then one
pub counts_more : (count : ℕ) (first next : List Event) (old between new : TotalsValue) →
    HasCounted count first old between → HasCounted 1 next between new →
    HasCounted (count + 1) (first ++ next) old new
counts_more count first next old between new so_far more = record {
  entries = omega (arith, so_far.entries, more.entries);
  added = omega (arith, so_far.added, more.added, additions-append first next);
  retracted = omega (arith, so_far.retracted, more.retracted, retractions-append first next);
}
