use Rattle.containment_test.proofs.Words.{one_verdict}
use Rattle.containment_test.proofs.laws.one_verdict.Goals as goal

pub returns : goal.returns
returns g c = one_verdict (g.L.Language.contains c.args.language.now)
