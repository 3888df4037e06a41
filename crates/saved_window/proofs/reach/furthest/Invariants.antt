use Rattle.std.proofs.Common.{take}
use Rattle.saved_window.specs.Reach.{ReachesForAll}
use Rattle.saved_window.proofs.reach.furthest.Given as goal

-- the window reaches back furthest among those of the queries so far
abbrev pub invariant-loop-query : goal.invariant-loop-query
invariant-loop-query l = ReachesForAll (take l.query-index l.queries) l.now l.found
