use Rattle.std.proofs.Common.{ap}
use Rattle.source_index.specs.Roots.{AddsRoot}
use Rattle.source_index.specs.VertexStorage.{many_of}
use Rattle.source_index.proofs.Keeping.{alone, among}
use Rattle.source_index.proofs.Places.{on_ok}
use Rattle.source_index.proofs.vertex.add_at.Goals as goal

pub returns-in-One-clause-added : goal.returns-in-One-clause-added
returns-in-One-clause-added c =
    on_ok c.add.result
    (alone (many_of c.args.kept.now) c.in-One.roots c.add.new.self c.args.place
    (λ before after. AddsRoot before after c.args.root) (ap many_of c.in-One.is) c.requires)
    c.add.ensures.added

pub returns-in-Several-clause-added : goal.returns-in-Several-clause-added
returns-in-Several-clause-added c =
    on_ok c.add-in-Several.result
    (among (many_of c.args.kept.now) c.in-Several.many.items c.index_mut.result.now
    c.add-in-Several.new.self c.args.place
    (λ before after. AddsRoot before after c.args.root) (ap many_of c.in-Several.is) c.requires
    c.index_mut.ensures.value)
    c.add-in-Several.ensures.added
