use Rattle.alike_histories.proofs.BothWays.{alike_both_ways, alike_walked}
use Rattle.alike_histories.proofs.laws.alike_both_ways.Goals as goal

pub returns-clause-doubled : goal.returns-clause-doubled
returns-clause-doubled c = alike_both_ways c.edges_are_seen_both_ways.ensures

pub returns-clause-walked : goal.returns-clause-walked
returns-clause-walked c = alike_walked c.edges_are_seen_both_ways.ensures
