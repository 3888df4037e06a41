use Rattle.std.proofs.Common.{take, map}
use Rattle.rpq_model.specs.Live.{placed_entry}
use Rattle.plain_checks.specs.PathTests.{IsPathAt}
use Rattle.plain_checks.proofs.shown.path_at.Given as goal

-- the entries so far have the positions so far
abbrev pub invariant-loop-index : goal.invariant-loop-index
invariant-loop-index l = IsPathAt (map placed_entry l.live) (take l.index l.positions) (map placed_entry l.path.items)
