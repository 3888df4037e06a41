use Rattle.dfa_table.proofs.Runs.{accepted_words_pass}
use Rattle.dfa_table.proofs.laws.accepted_words_pass.Goals as goal

pub returns : goal.returns
returns c = accepted_words_pass
