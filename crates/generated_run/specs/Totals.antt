-- What a run counts. Only private contracts cite this file.
use Rattle.std.specs.Prelude.{◌≡◌, ℕ, ◌+◌, ◌*◌, ◌^◌, ◌≤◌, List}
use Rattle.rpq_base.specs.declared.data.Event.{Event}
use Rattle.generated_run.specs.Summary.{additions, retractions}

-- how many entries were answered, and how many of their events add a pair or retract one
pub record TotalsValue : Type 0 where
  pub entries : ℕ
  pub added : ℕ
  pub retracted : ℕ

-- nothing is counted
abbrev pub no_totals : TotalsValue
no_totals = record { entries = 0; added = 0; retracted = 0 }

-- no entry has more events than a list in memory
pub record AreWithin (totals : TotalsValue) : Type 0 where
  pub added : totals.added ≤ totals.entries * 2 ^ 64
  pub retracted : totals.retracted ≤ totals.entries * 2 ^ 64

-- so many entries more were counted, with these events
pub record HasCounted (count : ℕ) (events : List Event) (old new : TotalsValue) : Type 0 where
  pub entries : new.entries ≡ old.entries + count
  pub added : new.added ≡ old.added + additions events
  pub retracted : new.retracted ≡ old.retracted + retractions events
