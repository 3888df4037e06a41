-- The index of a query as contracts see it.
use Rattle.std.specs.Prelude.{List}
use Rattle.window_clock.specs.Clock.{ClockValue}
use Rattle.delta_forest.specs.Forest.{ForestValue}
use Rattle.answer_rows.specs.Answers.{Answer}
use Rattle.query_index.specs.declared.stale.StaleRoots.{StaleRoots}

-- the clock of the query's window; its edges with the trees of best paths; the rows of answers that
-- were shown last; and the roots whose trees were touched since then
pub record IndexValue : Type 0 where
  pub clock : ClockValue
  pub forest : ForestValue
  pub shown : List Answer
  pub stale : StaleRoots
