use Rattle.path_syntax.proofs.Nullable.{nullable_is}
use Rattle.path_syntax.proofs.laws.nullable_has_empty_word.Goals as goal

pub returns : goal.returns
returns c = nullable_is
