use Rattle.history_model.proofs.Fronts.{legal_is_sound}
use Rattle.history_model.proofs.legal_laws.legal_is_sound.Goals as goal

pub returns : goal.returns
returns c = legal_is_sound
