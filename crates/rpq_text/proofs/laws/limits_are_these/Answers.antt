use Rattle.std.proofs.Common.{refl}
use Rattle.rpq_text.proofs.laws.limits_are_these.Goals as goal

pub returns : goal.returns
returns c = record { bytes = refl; streams = refl; queries = refl }
