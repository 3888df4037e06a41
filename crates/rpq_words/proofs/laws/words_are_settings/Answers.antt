use Rattle.rpq_words.proofs.Modes.{words_are_settings}
use Rattle.rpq_words.proofs.laws.words_are_settings.Goals as goal

pub returns : goal.returns
returns c = words_are_settings
