use Rattle.tuple_text.proofs.Written.{written_is_short}
use Rattle.tuple_text.proofs.laws.written_is_short.Goals as goal

pub returns : goal.returns
returns c = written_is_short
