use Rattle.stream_history.proofs.Turns.{no_fewer}
use Rattle.library_tests.proofs.room.give_up.Goals as goal

pub returns-clause-there : goal.returns-clause-there
returns-clause-there g c =
    no_fewer c.forget.new.pass.seen c.args.pass.now.seen c.forget.ensures.seen
