use Rattle.stream_history.proofs.Steps.{still_feeds}
use Rattle.library_tests.proofs.room.look_once.Goals as goal

pub returns-in-Ok-Some-clause-engine : goal.returns-in-Ok-Some-clause-engine
returns-in-Ok-Some-clause-engine g c =
    still_feeds c.args.history.now c.args.pass.now c.after.new.pass c.requires.engine
    c.after.ensures.pass
