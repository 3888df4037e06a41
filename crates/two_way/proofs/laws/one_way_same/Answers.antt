use Rattle.two_way.proofs.Forwards.{one_way_same}
use Rattle.two_way.proofs.laws.one_way_same.Goals as goal

pub returns : goal.returns
returns g c = one_way_same c.one_entry_more.ensures (g.L.Language.contains c.args.language.now)
