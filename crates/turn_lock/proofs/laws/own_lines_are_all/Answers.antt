use Rattle.turn_lock.proofs.LineLaws.{own_lines_are_all}
use Rattle.turn_lock.proofs.laws.own_lines_are_all.Goals as goal

pub returns : goal.returns
returns g c = own_lines_are_all g.V.Kept.author
