use Rattle.two_way.proofs.TwoWayEvents.{net_is_two_way, tick_is_two_way}
use Rattle.two_way.proofs.laws.net_is_two_way.Goals as goal

pub returns-clause-nets : goal.returns-clause-nets
returns-clause-nets c = net_is_two_way c.events_are_differences.ensures

pub returns-clause-ticks : goal.returns-clause-ticks
returns-clause-ticks c = tick_is_two_way
