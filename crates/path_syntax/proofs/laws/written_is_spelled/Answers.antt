use Rattle.path_syntax.specs.Grammar.{one_way, two_way}
use Rattle.path_syntax.proofs.Spelled.{spelled}
use Rattle.path_syntax.proofs.laws.written_is_spelled.Goals as goal

pub returns : goal.returns
returns c = record {
  with_inverses = λ e named. (spelled two_way e tt named).alternative;
  without = λ e plain named. (spelled one_way e plain named).alternative;
}
