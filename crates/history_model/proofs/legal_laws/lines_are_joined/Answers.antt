use Rattle.history_model.proofs.Own.{lines_are_joined}
use Rattle.history_model.proofs.legal_laws.lines_are_joined.Goals as goal

pub returns : goal.returns
returns c = lines_are_joined
