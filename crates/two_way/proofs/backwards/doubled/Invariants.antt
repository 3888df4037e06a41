use Rattle.std.proofs.Common.{◌≡◌, take}
use Rattle.two_way.specs.Doubled.{doubled}
use Rattle.two_way.proofs.backwards.doubled.Given as goal

-- the entries so far, each with its inverse
abbrev pub invariant-loop-entry : goal.invariant-loop-entry
invariant-loop-entry l = l.both.items ≡ doubled (take l.entry-index l.entries)
