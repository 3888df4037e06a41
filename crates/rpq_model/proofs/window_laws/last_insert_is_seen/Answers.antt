use Rattle.rpq_model.proofs.Ticks.{last_insert_is_seen}
use Rattle.rpq_model.proofs.window_laws.last_insert_is_seen.Goals as goal

pub returns : goal.returns
returns c = last_insert_is_seen
