use Rattle.std.proofs.Common.{◌≡◌, map, take}
use Rattle.dfa_table.specs.DfaValue.{label_at}
use Rattle.containment_test.proofs.decision.spell.Given as goal

-- the labels so far
abbrev pub invariant-loop-number : goal.invariant-loop-number
invariant-loop-number l = l.labels.items ≡ map (label_at l.dfa) (take l.number-index l.numbers)
