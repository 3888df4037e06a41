use Rattle.std.proofs.Common.{◌≡◌, ℕ, Vec, Global, Option, map, take}
use Rattle.query_index.proofs.automaton.rows_of.Given as goal

-- the rows so far
abbrev pub invariant-loop-state : goal.invariant-loop-state
invariant-loop-state l =
    map (λ (row : Vec (Option ℕ) Global). row.items) l.rows.items ≡ take l.state l.dfa.rows
