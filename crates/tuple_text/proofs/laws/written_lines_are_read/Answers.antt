use Rattle.tuple_text.proofs.Written.{written_lines_are_read}
use Rattle.tuple_text.proofs.laws.written_lines_are_read.Goals as goal

pub returns : goal.returns
returns c = written_lines_are_read c.decimal_is_read.ensures c.written_is_read.ensures
