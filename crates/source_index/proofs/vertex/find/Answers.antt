use Rattle.source_index.proofs.Beside.{free_of}
use Rattle.source_index.proofs.vertex.find.Goals as goal

pub returns-clause-free : goal.returns-clause-free
returns-clause-free c =
    free_of c.args.states.now c.args.state c.binary_search.result
    c.binary_search.ensures.position c.requires
