use Rattle.join_file.proofs.SomeVariable.{joins_are_sound}
use Rattle.join_file.proofs.laws.joins_are_sound.Goals as goal

pub returns : goal.returns
returns c = joins_are_sound
