use Rattle.rpq_model.proofs.Ticks.{delete_takes_all_before}
use Rattle.rpq_model.proofs.window_laws.delete_takes_all_before.Goals as goal

pub returns : goal.returns
returns c = delete_takes_all_before c.same_is_equal.ensures
