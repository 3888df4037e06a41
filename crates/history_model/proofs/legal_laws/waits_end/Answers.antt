use Rattle.history_model.proofs.Waits.{waits_end}
use Rattle.history_model.proofs.legal_laws.waits_end.Goals as goal

pub returns : goal.returns
returns c = waits_end
