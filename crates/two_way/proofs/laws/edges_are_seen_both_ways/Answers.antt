use Rattle.two_way.proofs.BothWays.{edges_are_seen_both_ways}
use Rattle.two_way.proofs.laws.edges_are_seen_both_ways.Goals as goal

pub returns : goal.returns
returns c = edges_are_seen_both_ways c.one_entry_more.ensures
