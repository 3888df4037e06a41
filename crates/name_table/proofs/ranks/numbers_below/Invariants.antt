use Rattle.name_table.specs.Ranks.{CountsUp}
use Rattle.name_table.proofs.ranks.numbers_below.Given as goal

-- the numbers so far
abbrev pub invariant-loop-number : goal.invariant-loop-number
invariant-loop-number l = CountsUp l.number l.numbers.items
