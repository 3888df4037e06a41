use Rattle.tuple_generator.proofs.History.{history_takes_one_more}
use Rattle.tuple_generator.proofs.laws.history_takes_one_more.Goals as goal

pub returns : goal.returns
returns c = history_takes_one_more
