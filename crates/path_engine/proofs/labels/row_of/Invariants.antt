use Rattle.std.proofs.Common.{◌≡◌, take}
use Rattle.path_engine.specs.Labels.{row_for}
use Rattle.path_engine.proofs.labels.row_of.Given as goal

-- the numbers for the queries so far
abbrev pub invariant-loop-query : goal.invariant-loop-query
invariant-loop-query l = l.row.items ≡ row_for (take l.query-index l.queries) l.label
