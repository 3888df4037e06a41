use Rattle.path_syntax.proofs.Answering.{one_outcome}
use Rattle.path_syntax.proofs.grammar_laws.one_outcome.Goals as goal

pub returns : goal.returns
returns c = one_outcome
