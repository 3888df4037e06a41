use Rattle.place_table.proofs.Reached.{state_read}
use Rattle.place_table.proofs.hints.Hints.state_at.Goals as goal

pub returns : goal.returns
returns c =
    state_read c.self.inside.rows.items c.args.self.now c.args.vertex c.args.k c.index.result.now
    c.at.result c.self.view_is c.requires c.index.ensures c.at.ensures
