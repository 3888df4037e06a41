-- What an object is after it was told of events.
use Rattle.std.specs.Prelude.{◌≡◌, ℕ, ◌+◌, ◌-◌, ◌^◌, max, min, not}
use Rattle.std.specs.Prelude.{List, [], ◌++◌, filter, count_by}
use Rattle.std.specs.Option.{option_map}
use Rattle.rpq_base.specs.declared.data.Event.{Event}
use Rattle.standing.specs.Objects.{Numbers, ObjectValue, wants}

-- a count with more counted: it grows up to 2^64 - 1, and never falls
abbrev pub counted : ℕ → ℕ → ℕ
counted count more = max count (min (2 ^ 64 - 1) (count + more))

-- the numbers with these events counted
abbrev pub with_counted : Numbers → List Event → Numbers
with_counted numbers events = record {
  added = counted numbers.added (count_by (λ event. event.added) events);
  retracted = counted numbers.retracted (count_by (λ event. not event.added) events);
}

-- the object was told of these events, one after another: it counted each of them, and tells them
-- behind those that it heard before, if it tells what it hears
pub record IsTold (events : List Event) (old new : ObjectValue) : Type 0 where
  pub wanted : new.wanted ≡ old.wanted
  pub numbers : new.numbers ≡ with_counted old.numbers events
  pub heard : new.heard ≡ option_map (λ before. before ++ events) old.heard

-- the events of the queries that are wanted
abbrev pub wanted_events : List ℕ → List Event → List Event
wanted_events wanted events = filter (λ event. wants wanted event.query) events

-- of these events the object heard those that it wants, and is as it was where it wants none
pub record HasHeard (events : List Event) (old new : ObjectValue) : Type 0 where
  pub told : IsTold (wanted_events old.wanted events) old new
  pub untold : wanted_events old.wanted events ≡ [] → new ≡ old
