use Rattle.shared_map.proofs.Search.{no_value}
use Rattle.shared_map.proofs.chunk.Chunk.find.Goals as goal

pub returns-in-Err-clause-none : goal.returns-in-Err-clause-none
returns-in-Err-clause-none g c =
    no_value g.met.K.Ord.total c.args.self.now c.in-Err.field-0 c.args.key.now c.requires c.in-Err.ensures.within c.in-Err.ensures.place
