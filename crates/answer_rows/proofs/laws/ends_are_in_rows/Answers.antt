use Rattle.answer_rows.proofs.Ends.{ends_in_rows}
use Rattle.answer_rows.proofs.laws.ends_are_in_rows.Goals as goal

pub returns : goal.returns
returns c = ends_in_rows
