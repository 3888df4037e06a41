use Rattle.std.specs.Prelude.{length}
use Rattle.edge_store.specs.Rows.{rows_of, sides}
use Rattle.edge_store.specs.Dues.{IsStore}
use Rattle.edge_store.proofs.Sides.{KeepsAbove}
use Rattle.edge_store.proofs.store.EdgeStore.expire.Given as goal

abbrev pub invariant-loop-next : goal.invariant-loop-next
invariant-loop-next l = record {
  store : IsStore (rows_of l.self-inside.outs) (rows_of l.self-inside.ins) l.self-inside.dues.items;
  kept : KeepsAbove l.now l.fn.self (sides (rows_of l.self-inside.outs) (rows_of l.self-inside.ins));
}

abbrev pub decreases-loop-next : goal.decreases-loop-next
decreases-loop-next l = length l.self-inside.dues.items
