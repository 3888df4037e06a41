use Rattle.saved_window.proofs.More.{saved_of_more}
use Rattle.saved_window.proofs.laws.saved_of_more.Goals as goal

pub returns : goal.returns
returns c = saved_of_more c.same_is_equal.ensures
