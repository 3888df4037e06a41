use Rattle.path_syntax.specs.Grammar.{one_way}
use Rattle.query_file.proofs.OneOutcome as outcome
use Rattle.query_file.proofs.laws.one_outcome.Goals as goal

pub returns : goal.returns
returns c = outcome.one_outcome one_way
