use Rattle.std.proofs.Common.{sym}
use Rattle.shared_map.proofs.Search.{value_seen, no_value}
use Rattle.shared_map.proofs.chunk.Chunk.get.Goals as goal

pub returns-in-Ok : goal.returns-in-Ok
returns-in-Ok g c =
    value_seen g.met.K.Ord.total c.self.inside.entries.items c.args.self.now c.in-Ok.place c.args.key.now c.index.result.now
    c.self.view_is c.index.ensures c.requires c.in-Ok.ensures.within (c.in-Ok.ensures.place c.index.result.now)

pub returns-in-Err : goal.returns-in-Err
returns-in-Err g c =
    sym (no_value g.met.K.Ord.total c.args.self.now c.in-Err.field-0 c.args.key.now c.requires c.in-Err.ensures.within c.in-Err.ensures.place)
