use Rattle.two_way.proofs.PlainWords.{plain_words}
use Rattle.two_way.proofs.laws.plain_expressions_have_plain_words.Goals as goal

pub returns : goal.returns
returns c = plain_words
