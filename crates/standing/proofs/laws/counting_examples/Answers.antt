use Rattle.std.proofs.Common.{refl}
use Rattle.standing.proofs.laws.counting_examples.Goals as goal

pub returns : goal.returns
returns c = record { small = refl; up_to = refl; beyond = refl; there = refl }
