use Rattle.std.proofs.Common.{◌≡◌, length, take}
use Rattle.join_bindings.specs.State.{ArePut}
use Rattle.join_bindings.proofs.change.change.Given as goal

-- the pairs of the events so far are put in or taken out
abbrev pub invariant-loop-event : goal.invariant-loop-event
invariant-loop-event l = ArePut l.fn.sets l.sets (take l.event-index l.events) × (length l.sets ≡ length l.fn.sets)
