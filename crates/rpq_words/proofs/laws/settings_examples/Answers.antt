use Rattle.rpq_words.proofs.Examples.{examples}
use Rattle.rpq_words.proofs.laws.settings_examples.Goals as goal

pub returns : goal.returns
returns c = examples
