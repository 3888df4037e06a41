use Rattle.history_model.proofs.Safety.{shut_is_final}
use Rattle.history_model.proofs.world_laws.shut_is_final.Goals as goal

pub returns : goal.returns
returns c = shut_is_final
