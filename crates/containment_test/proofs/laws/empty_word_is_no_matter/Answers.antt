use Rattle.containment_test.proofs.Words.{empty_word_is_no_matter}
use Rattle.containment_test.proofs.laws.empty_word_is_no_matter.Goals as goal

pub returns : goal.returns
returns g c = empty_word_is_no_matter (g.L.Language.contains c.args.language.now) (g.M.Language.contains c.args.other.now)
