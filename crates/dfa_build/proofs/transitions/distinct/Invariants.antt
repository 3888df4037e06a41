use Rattle.std.proofs.Common.{◌≡◌, [], take}
use Rattle.rpq_base.proofs.Members.{with_all}
use Rattle.rpq_base.specs.Order.{label_cmp}
use Rattle.dfa_build.proofs.transitions.distinct.Given as goal

-- the labels so far are found
abbrev pub invariant-loop-label : goal.invariant-loop-label
invariant-loop-label l = l.found.keys ≡ with_all label_cmp [] (take l.label-index l.labels)
