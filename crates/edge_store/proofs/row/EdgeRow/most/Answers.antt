use Rattle.std.proofs.Common.{subst}
use Rattle.edge_store.specs.Edges.{AreAtMost}
use Rattle.edge_store.specs.Row.{RowValue}
use Rattle.edge_store.proofs.Bounds.{at_most}
use Rattle.edge_store.proofs.row.EdgeRow.most.Goals as goal

pub returns : goal.returns
returns c =
    subst (λ (row : RowValue). AreAtMost c.self.inside.most row.entries) c.self.view_is
    (at_most c.self.inside.few.items c.self.inside.more.entries c.self.inside.most
    c.self.invariant)
