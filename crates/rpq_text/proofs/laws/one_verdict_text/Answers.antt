use Rattle.rpq_text.proofs.VerdictLines.{one_verdict_text}
use Rattle.rpq_text.proofs.laws.one_verdict_text.Goals as goal

pub returns : goal.returns
returns c = one_verdict_text c.least_has_fewest.ensures
