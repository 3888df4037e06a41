use Rattle.std.specs.Prelude.{⊤}
use Rattle.standing.proofs.HavingStood.{none_told, told_each, told_front}
use Rattle.standing.proofs.laws.objects_stand.Goals as goal

pub returns : goal.returns
returns c = record { begun = λ objects. none_told objects ⊤; all = told_each; front = told_front }
