use Rattle.run_start.proofs.OrderOfFiles.{saved_comes_first}
use Rattle.run_start.proofs.laws.saved_comes_first.Goals as goal

pub returns : goal.returns
returns c = saved_comes_first c.saved_text_is_read.ensures
