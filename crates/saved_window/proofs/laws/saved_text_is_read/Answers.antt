use Rattle.saved_window.proofs.Texts.{saved_text_is_read}
use Rattle.saved_window.proofs.laws.saved_text_is_read.Goals as goal

pub returns : goal.returns
returns c = saved_text_is_read c.written_is_short.ensures c.written_lines_are_read.ensures
