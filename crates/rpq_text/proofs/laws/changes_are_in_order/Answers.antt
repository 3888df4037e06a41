use Rattle.rpq_text.proofs.Orders.{changes_are_in_order}
use Rattle.rpq_text.proofs.laws.changes_are_in_order.Goals as goal

pub returns : goal.returns
returns c = changes_are_in_order
