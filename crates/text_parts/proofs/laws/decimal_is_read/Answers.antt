use Rattle.text_parts.proofs.Digits.{decimal_is_read}
use Rattle.text_parts.proofs.laws.decimal_is_read.Goals as goal

pub returns : goal.returns
returns c = decimal_is_read
