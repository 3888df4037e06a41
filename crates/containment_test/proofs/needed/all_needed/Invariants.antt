use Rattle.std.proofs.Common.{◌≡◌, ℕ, ◌<◌, length}
use Rattle.containment_test.specs.Needed.{NeedsAtMost, needed_at}
use Rattle.containment_test.proofs.needed.all_needed.Given as goal

-- the states so far have their labels
abbrev pub invariant-loop-state : goal.invariant-loop-state
invariant-loop-state l = record {
  as_many : length l.list.items ≡ l.state;
  each : (state : ℕ) → state < l.state → NeedsAtMost l.pairs state (needed_at l.list.items state);
}
