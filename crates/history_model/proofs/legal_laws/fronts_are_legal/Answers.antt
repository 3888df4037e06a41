use Rattle.history_model.proofs.Fronts.{fronts_are_legal}
use Rattle.history_model.proofs.legal_laws.fronts_are_legal.Goals as goal

pub returns : goal.returns
returns c = fronts_are_legal
