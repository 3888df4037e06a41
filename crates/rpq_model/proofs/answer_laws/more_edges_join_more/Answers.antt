use Rattle.rpq_model.proofs.Paths.{more_edges}
use Rattle.rpq_model.proofs.answer_laws.more_edges_join_more.Goals as goal

pub returns : goal.returns
returns g c = λ mode edges others. more_edges edges others (g.L.Language.contains c.args.language.now) mode
