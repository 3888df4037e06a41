use Rattle.path_syntax.specs.Grammar.{two_way}
use Rattle.query_file.proofs.OneOutcome.{one_outcome}
use Rattle.query_file.proofs.laws.one_two_way_outcome.Goals as goal

pub returns : goal.returns
returns c = one_outcome two_way
