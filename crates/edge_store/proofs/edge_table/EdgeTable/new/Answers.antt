use Rattle.std.proofs.Common.{length, ap}
use Rattle.std.specs.Map.{values_of}
use Rattle.edge_store.proofs.BlockBounds.{no_bounds}
use Rattle.edge_store.proofs.edge_table.EdgeTable.new.Goals as goal

pub invariant_of-result : goal.invariant_of-result
invariant_of-result c =
    no_bounds (values_of c.new.result.entries) c.new-2.result.items
    (ap (λ entries. length (values_of entries)) c.new.ensures.empty)
    (ap length c.new-2.ensures.items)
