use Rattle.rpq_base.proofs.Equality.{names, labels, edges, pairs}
use Rattle.rpq_base.proofs.laws.same_is_equal.Goals as goal

pub returns : goal.returns
returns c = record { names = names; labels = labels; edges = edges; pairs = pairs }
