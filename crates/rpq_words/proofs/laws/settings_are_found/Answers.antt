use Rattle.rpq_words.proofs.Arranging.{settings_are_found}
use Rattle.rpq_words.proofs.laws.settings_are_found.Goals as goal

pub returns : goal.returns
returns c = settings_are_found
