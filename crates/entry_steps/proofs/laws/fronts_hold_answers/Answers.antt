use Rattle.entry_steps.proofs.Fronts.{fronts_hold}
use Rattle.entry_steps.proofs.laws.fronts_hold_answers.Goals as goal

pub returns : goal.returns
returns c = fronts_hold c.same_is_equal.ensures
