use Rattle.std.proofs.Common.{refl, arith}
use Rattle.std.specs.Prelude.{◌↔◌, IfOk, IfSome, IsTrue}
use Rattle.history_model.specs.Lines.{AllEnded}
use Rattle.stream_history.proofs.Turns.{no_fewer, adds_none, told}
use Rattle.stream_history.proofs.history.History.after.Goals as goal

pub front_of-front-requires : goal.front_of-front-requires
front_of-front-requires g c =
    omega (
      arith,
      c.requires.there,
      no_fewer c.take-journal.result.lines c.args.pass.now.seen
          c.take-journal.ensures.value.seen_begins,
    )

pub give-requires-clause-lines : goal.give-requires-clause-lines
give-requires-clause-lines g c =
    adds_none c.take-journal.result.lines c.args.pass.now c.take-journal.new.pass
    c.take-journal.ensures.pass c.take-journal.result.lines refl

pub returns-clause-all_ended : goal.returns-clause-all_ended
returns-clause-all_ended g c =
    told c.args.self.now c.args.pass.now c.take-journal.new.pass c.give.new.pass
    c.take-journal.result c.requires.engine.is c.take-journal.ensures.value c.give.ensures
    (λ terms lines. IfOk c.front_of-front.result (λ found. IfSome found (λ front.
    IsTrue front.all_ended ↔ AllEnded terms.streams lines)))
    c.front_of-front.ensures.all_ended
