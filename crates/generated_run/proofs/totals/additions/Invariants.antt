use Rattle.std.proofs.Common.{◌≡◌, take}
use Rattle.generated_run.specs.Summary.{additions}
use Rattle.generated_run.proofs.totals.additions.Given as goal

-- the additions so far are counted
abbrev pub invariant-loop-place : goal.invariant-loop-place
invariant-loop-place l = l.count ≡ additions (take l.place l.events)
