use Rattle.containment_test.proofs.Words.{second_is_one_label}
use Rattle.containment_test.proofs.laws.second_is_one_label.Goals as goal

pub returns : goal.returns
returns g c = second_is_one_label (g.L.Language.contains c.args.language.now)
