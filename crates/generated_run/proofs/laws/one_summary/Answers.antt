use Rattle.generated_run.proofs.OneText.{one_summary}
use Rattle.generated_run.proofs.laws.one_summary.Goals as goal

pub returns : goal.returns
returns c = one_summary c.views_are_one.ensures
