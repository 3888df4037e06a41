use Rattle.path_syntax.proofs.WrittenSigns.{signs_of_written}
use Rattle.path_syntax.proofs.laws.written_has_signs.Goals as goal

pub returns : goal.returns
returns c = signs_of_written
