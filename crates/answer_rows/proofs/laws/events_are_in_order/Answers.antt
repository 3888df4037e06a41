use Rattle.answer_rows.proofs.Told.{events_are_in_order}
use Rattle.answer_rows.proofs.laws.events_are_in_order.Goals as goal

pub returns : goal.returns
returns c = events_are_in_order
