use Rattle.name_table.specs.Ranks.{Inverts}
use Rattle.name_table.proofs.ranks.invert.Given as goal

-- the places so far are put
abbrev pub invariant-loop-place : goal.invariant-loop-place
invariant-loop-place l = Inverts l.place l.list l.fn.inverse.items l.inverse.items
