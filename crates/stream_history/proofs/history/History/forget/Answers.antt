use Rattle.std.proofs.Common.{arith}
use Rattle.stream_history.proofs.Turns.{no_fewer, adds_none}
use Rattle.stream_history.proofs.history.History.forget.Goals as goal

pub forget_first-requires-clause-there : goal.forget_first-requires-clause-there
forget_first-requires-clause-there g c =
    omega (
      arith,
      c.requires.there,
      no_fewer c.take-journal.result.lines c.args.pass.now.seen
          c.take-journal.ensures.value.seen_begins,
    )

pub give-requires-clause-lines : goal.give-requires-clause-lines
give-requires-clause-lines g c =
    adds_none c.take-journal.result.lines c.args.pass.now c.take-journal.new.pass
    c.take-journal.ensures.pass c.forget_first.new.self.lines c.forget_first.ensures.lines
