use Rattle.index_laws.proofs.Ways.{answers_have_ways}
use Rattle.index_laws.proofs.laws.answers_have_ways.Goals as goal

pub returns : goal.returns
returns g c = answers_have_ways (g.L.Language.contains c.args.language.now)
