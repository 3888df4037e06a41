use Rattle.rpq_model.proofs.Queries.{empty_word_brings_no_pair}
use Rattle.rpq_model.proofs.answer_laws.empty_word_brings_no_pair.Goals as goal

pub returns : goal.returns
returns g c = empty_word_brings_no_pair (g.L.Language.contains c.args.language.now) (g.M.Language.contains c.args.other.now)
