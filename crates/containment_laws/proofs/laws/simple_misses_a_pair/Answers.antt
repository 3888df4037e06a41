use Rattle.containment_laws.proofs.Missed.{simple_misses_a_pair}
use Rattle.containment_laws.proofs.laws.simple_misses_a_pair.Goals as goal

pub returns : goal.returns
returns g c = simple_misses_a_pair (g.L.Language.contains c.args.language.now)
