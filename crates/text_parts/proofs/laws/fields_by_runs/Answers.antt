use Rattle.text_parts.proofs.FieldLaws.{fields_by_runs}
use Rattle.text_parts.proofs.laws.fields_by_runs.Goals as goal

pub returns : goal.returns
returns c = fields_by_runs
