use Rattle.dfa_table.proofs.Numbering.{one_numbering}
use Rattle.dfa_table.proofs.laws.one_numbering.Goals as goal

pub returns : goal.returns
returns c = one_numbering
