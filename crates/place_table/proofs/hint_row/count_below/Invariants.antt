use Rattle.std.proofs.Common.{◌-◌, ◌≤◌, ◌<◌, ℕ, length}
use Rattle.place_table.specs.Rows.{state_in}
use Rattle.place_table.proofs.hint_row.count_below.Given as goal

-- the states before the one bound are below this one, and those from the other on aren't
abbrev pub invariant-loop-low : goal.invariant-loop-low
invariant-loop-low l = record {
  order : l.low ≤ l.high;
  within : l.high ≤ length l.hints;
  below : (each : ℕ) → each < l.low → state_in l.hints each < l.state;
  rest : (each : ℕ) → l.high ≤ each → each < length l.hints → l.state ≤ state_in l.hints each;
}

abbrev pub decreases-loop-low : goal.decreases-loop-low
decreases-loop-low l = l.high - l.low
