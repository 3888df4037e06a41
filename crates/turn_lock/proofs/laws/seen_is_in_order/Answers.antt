use Rattle.turn_lock.proofs.LineLaws.{seen_is_in_order}
use Rattle.turn_lock.proofs.laws.seen_is_in_order.Goals as goal

pub returns : goal.returns
returns g c = seen_is_in_order _
