use Rattle.stream_history.proofs.Steps.{still_feeds}
use Rattle.library_tests.proofs.history.sleep_at.Goals as goal

pub sleep_until_entries-requires-clause-engine : goal.sleep_until_entries-requires-clause-engine
sleep_until_entries-requires-clause-engine g c =
    still_feeds c.args.history.now c.args.pass.now c.after.new.pass c.requires.engine
    c.after.ensures.pass
