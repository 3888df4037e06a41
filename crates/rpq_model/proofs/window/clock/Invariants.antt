use Rattle.std.proofs.Common.{◌≡◌, ◌≤◌, max, take, fold}
use Rattle.rpq_base.specs.declared.data.TheConstants.{MAX_TIME}
use Rattle.rpq_model.proofs.window.clock.Given as goal

-- the greatest time so far, which is in the range of times
abbrev pub invariant-loop-entry : goal.invariant-loop-entry
invariant-loop-entry l =
    (l.latest ≡ fold (λ latest entry. max latest entry.tuple.time) 0 (take l.entry-index l.history))
    × (l.latest ≤ MAX_TIME)
