use Rattle.text_parts.proofs.FieldLaws.{joined_fields_are_read}
use Rattle.text_parts.proofs.laws.joined_fields_are_read.Goals as goal

pub returns : goal.returns
returns c = joined_fields_are_read
