use Rattle.std.proofs.Common.{Contains, drop}
use Rattle.query_index.specs.Shown.{ShowAllBut}
use Rattle.query_index.proofs.showing.renew_each.Given as goal

-- the rows of the roots still to come are left
abbrev pub invariant-loop-root : goal.invariant-loop-root
invariant-loop-root l =
    ShowAllBut (Contains (drop l.root-index l.roots)) l.mode l.names l.forest l.rows
