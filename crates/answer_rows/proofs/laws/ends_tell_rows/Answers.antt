use Rattle.answer_rows.proofs.Ends.{ends_tell}
use Rattle.answer_rows.proofs.laws.ends_tell_rows.Goals as goal

pub returns : goal.returns
returns c = ends_tell
