use Rattle.rpq_base.proofs.Sorted.{sorted_nil}
use Rattle.two_way.specs.Differences.{event_cmp}
use Rattle.two_way.proofs.netting.net_of.Goals as goal

pub net-requires-clause-second : goal.net-requires-clause-second
net-requires-clause-second c = sorted_nil event_cmp
