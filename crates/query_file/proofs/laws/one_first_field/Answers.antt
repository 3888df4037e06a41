use Rattle.query_file.proofs.FirstFields.{one_first}
use Rattle.query_file.proofs.laws.one_first_field.Goals as goal

pub returns : goal.returns
returns c = one_first
