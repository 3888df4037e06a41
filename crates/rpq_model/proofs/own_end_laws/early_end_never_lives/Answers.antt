use Rattle.rpq_model.proofs.EndsOfInserts.{early_end_never_lives}
use Rattle.rpq_model.proofs.own_end_laws.early_end_never_lives.Goals as goal

pub returns : goal.returns
returns c = early_end_never_lives c.same_is_equal.ensures
