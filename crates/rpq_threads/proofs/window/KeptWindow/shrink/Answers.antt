use Rattle.std.proofs.Common.{arith}
use Rattle.rpq_threads.proofs.window.KeptWindow.shrink.Goals as goal

-- the limit was reached
pub returns-clause-turn : goal.returns-clause-turn
returns-clause-turn c = (
  omega (
    arith,
    c.if-all-self-2.false,
    c.drop_passed.ensures.limit,
    c.saturating_add-all.ensures,
    c.len.ensures,
    c.args.self.now.entries.ok.0,
  ),
  c.begin_anew.ensures.none_dropped,
  c.begin_anew.ensures.limit,
)
