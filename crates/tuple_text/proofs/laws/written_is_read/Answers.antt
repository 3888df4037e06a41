use Rattle.tuple_text.proofs.Written.{written_is_read}
use Rattle.tuple_text.proofs.laws.written_is_read.Goals as goal

pub returns : goal.returns
returns c = written_is_read c.joined_fields_are_read.ensures c.decimal_is_read.ensures
