use Rattle.rpq_text.proofs.Orders.{latest_is_found}
use Rattle.rpq_text.proofs.laws.latest_is_found.Goals as goal

pub returns : goal.returns
returns c = latest_is_found
