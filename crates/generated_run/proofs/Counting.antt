-- The steps of entries are counted, and then those of the entries behind them.
use Rattle.std.proofs.Common.{◌≡◌, ℕ, ◌+◌, List, [], ◌++◌, length, Option, Some, None, refl, sym}
use Rattle.std.proofs.Common.{subst, length-append, arith}
use Rattle.std.specs.Prelude.{⊤}
use Rattle.engine_loop.proofs.TellingMore.{tells_nothing, tells_more, tells_weaker, tells_front_of_more}
use Rattle.engine_loop.specs.Sinks.{GoesOn}
use Rattle.engine_loop.specs.Telling.{TellsOn}
use Rattle.entry_steps.specs.Steps.{StepValue, events_of}
use Rattle.history_model.specs.declared.line.Why.{Why}
use Rattle.history_model.specs.declared.line.Why.TheVariants.{Memory}
use Rattle.rpq_base.specs.declared.data.Entry.{Entry}
use Rattle.rpq_base.specs.declared.data.Event.{Event}
use Rattle.rpq_model.specs.Query.{Query}
use Rattle.standing.specs.Circles.{as_seen}
use Rattle.standing.specs.Objects.{ObjectValue}
use Rattle.generated_run.specs.Counts.{CountsSteps}
use Rattle.generated_run.specs.Summary.{all_of}
use Rattle.generated_run.specs.Totals.{TotalsValue, HasCounted}
use Rattle.generated_run.specs.declared.counts.EventCounts.{EventCounts}
use Rattle.generated_run.proofs.Told.{events_append, additions-append, retractions-append}

-- nothing is counted
counts_none : (totals : TotalsValue) → HasCounted 0 [] totals totals
counts_none totals = record {
  entries = omega arith;
  added = omega arith;
  retracted = omega arith;
}

-- some entries are counted, and then those behind them
counts_then : (count more : ℕ) (first later : List Event) (old mid new : TotalsValue) →
    HasCounted count first old mid → HasCounted more later mid new →
    HasCounted (count + more) (first ++ later) old new
counts_then count more first later old mid new did then = record {
  entries = omega (arith, did.entries, then.entries);
  added = omega (arith, did.added, then.added, additions-append first later);
  retracted = omega (arith, did.retracted, then.retracted, retractions-append first later);
}

module _ {O : Type 0} (seen : O → ObjectValue) where
  counts_more : (first later : List Entry) (steps rest : List StepValue) (why : Option Why)
      (old mid new : EventCounts O) → CountsSteps seen first steps None old mid →
      CountsSteps seen later rest why mid new →
      CountsSteps seen (first ++ later) (steps ++ rest) why old new
  counts_more first later steps rest why old mid new did then =
      let one = all_of (events_of steps) in
      let two = all_of (events_of rest) in
      record {
        told = subst (λ (events : List Event). TellsOn events (why ≡ None)
            (as_seen seen old.circle) (as_seen seen new.circle)) (sym (events_append steps rest))
            (tells_more one two (why ≡ None) (as_seen seen old.circle) (as_seen seen mid.circle)
            (as_seen seen new.circle) (tells_weaker one (None ≡ None) ⊤ (as_seen seen old.circle)
            (as_seen seen mid.circle) (λ _. refl) did.told) then.told);
        counted = λ all.
            subst (λ (n : ℕ). HasCounted n (all_of (events_of (steps ++ rest))) old.totals
            new.totals) (sym (length-append first later))
            (subst (λ (events : List Event). HasCounted (length first + length later) events
            old.totals new.totals) (sym (events_append steps rest))
            (counts_then (length first) (length later) one two old.totals mid.totals new.totals
            (did.counted refl) (then.counted all)));
      }

  counts_longer : (first later : List Entry) (steps rest : List StepValue) (why : Why)
      (old new : EventCounts O) → CountsSteps seen first steps (Some why) old new →
      CountsSteps seen (first ++ later) (steps ++ rest) (Some why) old new
  counts_longer first later steps rest why old new did = record {
    told = subst (λ (events : List Event). TellsOn events (Some why ≡ None)
        (as_seen seen old.circle) (as_seen seen new.circle)) (sym (events_append steps rest))
        (tells_front_of_more (all_of (events_of steps)) (all_of (events_of rest))
        (Some why ≡ None) (Some why ≡ None) (as_seen seen old.circle) (as_seen seen new.circle)
        (λ is. cc) did.told);
    counted = λ is. absurd cc;
  }

  -- what is counted goes on
  pub counts_go_on : GoesOn (λ (counts : EventCounts O). counts.totals.entries)
      (λ (queries : List Query) entries steps why old new.
      CountsSteps seen entries steps why old new)
  counts_go_on = record {
    none = λ queries counts. record {
      told = tells_nothing (None ≡ None) (as_seen seen counts.circle);
      counted = λ all. counts_none counts.totals;
    };
    more = λ queries first later steps rest why old mid new many did then.
        counts_more first later steps rest why old mid new did then;
    longer = λ queries first later steps rest why old new many did.
        counts_longer first later steps rest why old new did;
    stopped = λ queries entries steps old new did. record {
      told = tells_weaker (all_of (events_of steps)) (None ≡ None) (Some Memory ≡ None)
          (as_seen seen old.circle) (as_seen seen new.circle) (λ _. refl) did.told;
      counted = λ is. absurd cc;
    };
    counted = λ queries entries steps old new did. (did.counted refl).entries;
  }
