use Rattle.containment_laws.proofs.Agreeing.{answers_agree}
use Rattle.containment_laws.proofs.laws.contained_answers_agree.Goals as goal

pub returns : goal.returns
returns g c = answers_agree (g.L.Language.contains c.args.language.now)
