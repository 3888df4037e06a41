use Rattle.end_log.proofs.Ordered.{in_order}
use Rattle.end_log.proofs.listing.put_in_order.Goals as goal

pub returns-clause-order : goal.returns-clause-order
returns-clause-order c = in_order c.sort_unstable.new.self.items c.sort_unstable.ensures.sorted
