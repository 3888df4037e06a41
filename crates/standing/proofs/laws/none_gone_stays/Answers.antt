use Rattle.standing.proofs.HavingStood.{none_gone}
use Rattle.standing.proofs.laws.none_gone_stays.Goals as goal

pub returns : goal.returns
returns c = λ objects events stayed left. none_gone objects events ⊥ stayed left
