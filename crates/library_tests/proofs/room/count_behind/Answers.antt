use Rattle.stream_history.proofs.Turns.{no_fewer}
use Rattle.library_tests.proofs.room.count_behind.Goals as goal

pub returns-in_err-ok-clause-there : goal.returns-in_err-ok-clause-there
returns-in_err-ok-clause-there g c =
    no_fewer c.after.new.pass.seen c.args.pass.now.seen c.after.ensures.pass.seen

pub returns-in_err-front-clause-there : goal.returns-in_err-front-clause-there
returns-in_err-front-clause-there g c =
    no_fewer c.after.new.pass.seen c.args.pass.now.seen c.after.ensures.pass.seen

pub returns-clause-there : goal.returns-clause-there
returns-clause-there g c =
    no_fewer c.after.new.pass.seen c.args.pass.now.seen c.after.ensures.pass.seen
