use Rattle.stream_threads.proofs.Serving.{have_replied}
use Rattle.stream_threads.proofs.session_threads.beside_sessions.Goals as goal

pub returns-clause-replied : goal.returns-clause-replied
returns-clause-replied g c =
    have_replied c.args.shared.now.history.now c.args.works.items c.join.result.0.items
    c.requires.new c.join.ensures.first.0 c.join.ensures.first.1
