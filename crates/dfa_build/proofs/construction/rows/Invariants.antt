use Rattle.std.proofs.Common.{◌≡◌, map, take}
use Rattle.dfa_build.specs.PositionSet.{has, numbers}
use Rattle.dfa_build.proofs.construction.rows.Given as goal

abbrev pub invariant-loop-set : goal.invariant-loop-set
invariant-loop-set l = map (λ row. row.items) l.rows.items ≡ map (λ set. numbers (has set)) (take l.set-index l.sets)
