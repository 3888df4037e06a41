use Rattle.path_syntax.specs.Grammar.{one_way, two_way}
use Rattle.path_syntax.proofs.Readable.{readable}
use Rattle.path_syntax.proofs.laws.written_is_readable.Goals as goal

pub returns : goal.returns
returns c = record {
  with_inverses = λ e named few. readable two_way e named tt few;
  without = readable one_way;
}
