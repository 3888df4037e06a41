use Rattle.dfa_build.proofs.Words.{marked_spells_words}
use Rattle.dfa_build.proofs.laws.marked_spells_words.Goals as goal

pub returns : goal.returns
returns c = marked_spells_words
