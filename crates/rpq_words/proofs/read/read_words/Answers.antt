use Rattle.std.proofs.lemmas.Result.{IfOk-weaker}
use Rattle.clap.specs.Matches.{found_of}
use Rattle.clap.specs.Walk.{rows_of}
use Rattle.rpq_words.proofs.Modes.{settled_are}
use Rattle.rpq_words.proofs.read.read_words.Goals as goal

pub returns-in-Ok-clause-sound : goal.returns-in-Ok-clause-sound
returns-in-Ok-clause-sound c =
    IfOk-weaker c.settings_of_matches.result _ _ (settled_are (rows_of (found_of c.in-Ok.matches)))
    c.settings_of_matches.ensures.ok
