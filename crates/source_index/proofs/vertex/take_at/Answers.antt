use Rattle.std.proofs.Common.{ap}
use Rattle.source_index.specs.Roots.{DropsRoot}
use Rattle.source_index.specs.VertexStorage.{many_of}
use Rattle.source_index.proofs.Keeping.{alone, among}
use Rattle.source_index.proofs.vertex.take_at.Goals as goal

pub returns-in-One-clause-dropped : goal.returns-in-One-clause-dropped
returns-in-One-clause-dropped c =
    alone (many_of c.args.kept.now) c.in-One.roots c.remove.new.self c.args.place
    (λ before after. DropsRoot before after c.args.root) (ap many_of c.in-One.is) c.requires
    c.remove.ensures

pub returns-in-Several-clause-dropped : goal.returns-in-Several-clause-dropped
returns-in-Several-clause-dropped c =
    among (many_of c.args.kept.now) c.in-Several.many.items c.index_mut.result.now
    c.remove-in-Several.new.self c.args.place
    (λ before after. DropsRoot before after c.args.root) (ap many_of c.in-Several.is) c.requires
    c.index_mut.ensures.value c.remove-in-Several.ensures
