use Rattle.rpq_model.proofs.EndsOfInserts.{end_beyond_the_window}
use Rattle.rpq_model.proofs.own_end_laws.end_beyond_the_window.Goals as goal

pub returns : goal.returns
returns c = end_beyond_the_window
