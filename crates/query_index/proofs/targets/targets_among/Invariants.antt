use Rattle.std.proofs.Common.{◌≡◌, take}
use Rattle.query_index.specs.Showing.{targets_among}
use Rattle.query_index.proofs.targets.targets_among.Given as goal

-- the vertices so far
abbrev pub invariant-loop-each : goal.invariant-loop-each
invariant-loop-each l =
    l.targets.items ≡ targets_among l.mode l.names l.root (take l.each-index l.reached)
