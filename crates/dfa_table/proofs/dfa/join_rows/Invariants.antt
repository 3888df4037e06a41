use Rattle.std.proofs.Common.{◌≡◌, take}
use Rattle.std.specs.List.{flat_map}
use Rattle.dfa_table.proofs.dfa.join_rows.Given as goal

-- the rows so far are joined
abbrev pub invariant-loop-row : goal.invariant-loop-row
invariant-loop-row l = l.steps.items ≡ flat_map (λ row. row.items) (take l.row-index l.rows)
