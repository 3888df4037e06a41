use Rattle.answer_rows.proofs.Columns.{sources_have_ends}
use Rattle.answer_rows.proofs.laws.sources_have_ends.Goals as goal

pub returns : goal.returns
returns c = sources_have_ends
