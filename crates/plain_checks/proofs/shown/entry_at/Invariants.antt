use Rattle.std.proofs.Common.{take}
use Rattle.plain_checks.proofs.PathFinding.{HasNone}
use Rattle.plain_checks.proofs.shown.entry_at.Given as goal

-- none of the entries so far has the place
abbrev pub invariant-loop-index : goal.invariant-loop-index
invariant-loop-index l = HasNone (take l.index l.live) l.place
