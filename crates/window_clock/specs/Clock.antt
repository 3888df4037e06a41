-- The clock of a window, and the deadline of a time.
use Rattle.std.specs.Prelude.{◌≡◌, ℕ, ◌+◌, ◌*◌, ◌-◌, ◌^◌, ◌≤◌, Option}
use Rattle.rpq_base.specs.OwnEnds.{at_most_end}

-- the size and the slide of a window, and the greatest time so far
pub record ClockValue : Type 0 where
  pub size : ℕ
  pub slide : ℕ
  pub clock : ℕ

-- the size and the slide of a window are in their range
pub record HasBounds (size slide : ℕ) : Type 0 where
  pub size_some : 1 ≤ size
  pub size_bound : size ≤ 2 ^ 62 - 1
  pub slide_some : 1 ≤ slide
  pub slide_bound : slide ≤ 2 ^ 62 - 1

-- the same window
pub record IsSameWindow (old new : ClockValue) : Type 0 where
  pub size : new.size ≡ old.size
  pub slide : new.slide ≡ old.slide

-- the deadline of a time: the least multiple of the slide that is at least the time and the size of
-- the window together
pub record IsDeadline (clock : ClockValue) (time deadline : ℕ) : Type 0 where
  pub multiple : (n : ℕ) × (deadline ≡ n * clock.slide)
  pub reached : time + clock.size ≤ deadline
  pub least : (n : ℕ) → time + clock.size ≤ n * clock.slide → deadline ≤ n * clock.slide

-- the deadline of an insert: that of its time, or its own end where it has one that is less
abbrev pub IsDeadlineOf : ClockValue → ℕ → Option ℕ → ℕ → Type 0
IsDeadlineOf clock time until deadline =
    (of_time : ℕ) × IsDeadline clock time of_time × (deadline ≡ at_most_end of_time until)
