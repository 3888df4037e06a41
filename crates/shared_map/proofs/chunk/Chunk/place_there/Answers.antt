use Rattle.shared_map.proofs.Search.{no_value}
use Rattle.shared_map.proofs.Outcomes.{none_is_none}
use Rattle.shared_map.proofs.chunk.Chunk.place_there.Goals as goal

pub returns-in-Err : goal.returns-in-Err
returns-in-Err g c =
    absurd (none_is_none _ (no_value g.met.K.Ord.total c.args.self.now c.in-Err.place c.args.key.now c.requires.sorted c.in-Err.ensures.within c.in-Err.ensures.place)
    c.requires.there)
