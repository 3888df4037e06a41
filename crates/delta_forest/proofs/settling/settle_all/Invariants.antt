use Rattle.std.proofs.Common.{take}
use Rattle.delta_forest.specs.Settling.{AreFound, AreSettled}
use Rattle.delta_forest.proofs.settling.settle_all.Given as goal

-- the roots so far are settled
abbrev pub invariant-loop-root : goal.invariant-loop-root
invariant-loop-root l = record {
  settled : AreSettled l.change l.fn.index l.index (take l.root-index l.roots);
  found : AreFound l.fn.index.sources (take l.root-index l.roots) l.found;
}
