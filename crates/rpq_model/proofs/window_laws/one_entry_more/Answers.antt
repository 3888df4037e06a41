use Rattle.rpq_model.proofs.OneMore.{one_entry_more}
use Rattle.rpq_model.proofs.window_laws.one_entry_more.Goals as goal

pub returns : goal.returns
returns c = one_entry_more c.same_is_equal.ensures
