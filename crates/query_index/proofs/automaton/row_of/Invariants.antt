use Rattle.std.proofs.Common.{◌≡◌, [], take, slice_index_or}
use Rattle.query_index.proofs.automaton.row_of.Given as goal

-- the steps so far
abbrev pub invariant-loop-label : goal.invariant-loop-label
invariant-loop-label l = l.row.items ≡ take l.label (slice_index_or l.dfa.rows l.state [])
