use Rattle.two_way.proofs.NetDifference.{net_is_difference}
use Rattle.two_way.proofs.laws.net_is_difference.Goals as goal

pub returns : goal.returns
returns c = net_is_difference
