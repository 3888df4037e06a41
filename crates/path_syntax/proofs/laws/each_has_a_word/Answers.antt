use Rattle.path_syntax.proofs.NonemptyWords.{has_a_word}
use Rattle.path_syntax.proofs.laws.each_has_a_word.Goals as goal

pub returns : goal.returns
returns c = has_a_word
