use Rattle.std.specs.Prelude.{length, vec_len}
use Rattle.edge_store.specs.Rows.{AreNumbered, IsSide, KeepsRows}
use Rattle.edge_store.proofs.rows.trim.Given as goal

abbrev pub invariant-loop-owner : goal.invariant-loop-owner
invariant-loop-owner l = record {
  slots : IsSide l.slots.items (length l.rows.items);
  numbered : AreNumbered l.slots.items (length l.rows.items);
  same : KeepsRows l.fn.slots.items l.fn.rows.items l.slots.items l.rows.items;
}

abbrev pub decreases-loop-owner : goal.decreases-loop-owner
decreases-loop-owner l = vec_len l.rows
