use Rattle.rpq_text.proofs.VerdictExample.{verdict_example}
use Rattle.rpq_text.proofs.laws.verdict_example.Goals as goal

pub returns : goal.returns
returns c = verdict_example
