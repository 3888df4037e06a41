use Rattle.path_syntax.proofs.Completeness as completeness
use Rattle.path_syntax.proofs.grammar_laws.one_expression.Goals as goal

pub returns : goal.returns
returns c = completeness.one_expression
