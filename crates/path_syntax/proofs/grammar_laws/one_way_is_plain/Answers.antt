use Rattle.path_syntax.proofs.OneWay.{one_way_is_plain}
use Rattle.path_syntax.proofs.grammar_laws.one_way_is_plain.Goals as goal

pub returns : goal.returns
returns c = one_way_is_plain
