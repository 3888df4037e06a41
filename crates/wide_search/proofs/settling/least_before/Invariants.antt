use Rattle.std.proofs.Common.{◌≡◌, ℕ, ◌<◌, Some, slice_get}
use Rattle.tree_insert.specs.Best.{IsAtLeast}
use Rattle.place_table.specs.declared.gain.Gain.{Gain}
use Rattle.wide_search.proofs.settling.least_before.Given as goal

-- the least so far is at most what each of the first gains had before
abbrev pub invariant-loop-gain : goal.invariant-loop-gain
invariant-loop-gain l = (k : ℕ) (gain : Gain) (number : ℕ) → k < l.gain-index →
    slice_get l.gains k ≡ Some gain → IsAtLeast number l.least → IsAtLeast number gain.before
