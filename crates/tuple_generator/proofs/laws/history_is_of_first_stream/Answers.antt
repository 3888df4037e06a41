use Rattle.tuple_generator.proofs.History.{history_is_of_first_stream}
use Rattle.tuple_generator.proofs.laws.history_is_of_first_stream.Goals as goal

pub returns : goal.returns
returns c = history_is_of_first_stream
