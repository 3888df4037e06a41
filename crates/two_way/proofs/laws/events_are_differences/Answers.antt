use Rattle.two_way.proofs.Families.{events_are_differences}
use Rattle.two_way.proofs.laws.events_are_differences.Goals as goal

pub returns : goal.returns
returns c = events_are_differences c.same_is_equal.ensures
