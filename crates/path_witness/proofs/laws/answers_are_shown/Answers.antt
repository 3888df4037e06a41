use Rattle.path_witness.proofs.WindowPaths.{answers_are_shown}
use Rattle.path_witness.proofs.laws.answers_are_shown.Goals as goal

pub returns : goal.returns
returns c = answers_are_shown c.accepted_answers_end.ensures
