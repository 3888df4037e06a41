use Rattle.containment_laws.proofs.Accepted.{simple_answers_from_all}
use Rattle.containment_laws.proofs.laws.simple_answers_from_all.Goals as goal

pub returns : goal.returns
returns g c = simple_answers_from_all (g.L.Language.contains c.args.language.now)
