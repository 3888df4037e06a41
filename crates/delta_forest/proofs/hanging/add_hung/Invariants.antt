use Rattle.std.proofs.Common.{take, Contains}
use Rattle.delta_forest.specs.Candidates.{Adds, IsHungAt}
use Rattle.delta_forest.proofs.hanging.add_hung.Given as goal

-- those of the roots so far whose trees hang there are added
abbrev pub invariant-loop-root : goal.invariant-loop-root
invariant-loop-root l = Adds l.fn.roots.items l.roots.items
    (λ root. Contains (take l.root-index l.root-items) root
    × IsHungAt l.sources l.edge l.id root)
