use Rattle.plain_evaluator.specs.Lasting.{GivesEnd}
use Rattle.plain_evaluator.proofs.rows.put_ends.Given as goal

-- the pairs so far have the end
abbrev pub invariant-loop-pair : goal.invariant-loop-pair
invariant-loop-pair l = GivesEnd l.yielded l.until l.fn.ends l.ends
