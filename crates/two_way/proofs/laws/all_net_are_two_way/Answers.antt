use Rattle.two_way.proofs.NetOfEach.{all_net_are_two_way}
use Rattle.two_way.proofs.laws.all_net_are_two_way.Goals as goal

pub returns : goal.returns
returns c = all_net_are_two_way c.events_are_differences.ensures
