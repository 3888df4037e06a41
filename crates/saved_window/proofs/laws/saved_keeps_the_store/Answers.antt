use Rattle.saved_window.proofs.Continues.{saved_keeps_the_store}
use Rattle.saved_window.proofs.laws.saved_keeps_the_store.Goals as goal

pub returns : goal.returns
returns c = saved_keeps_the_store c.same_is_equal.ensures
