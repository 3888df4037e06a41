use Rattle.std.proofs.Common.{◌≤◌, ℕ, List, length, slice_index, ap, subst, arith}
use Rattle.edge_store.specs.Edges.{AreAtMostWithin}
use Rattle.edge_store.specs.Row.{RowValue}
use Rattle.edge_store.proofs.BlockBounds.{values_len, at_most_within}
use Rattle.edge_store.proofs.edge_table.EdgeTable.next_above.Goals as goal

pub overflow_mul-block : goal.overflow_mul-block
overflow_mul-block c =
    omega (
      arith,
      c.next_block-block.ensures.within,
      ap length c.deref.ensures.value,
      c.self.invariant.needed,
      values_len c.self.inside.map.entries,
      c.len-len.ensures.len,
      c.len-len.ensures.small,
      c.ranges.place,
    )

pub returns-clause-skipped : goal.returns-clause-skipped
returns-clause-skipped c =
    subst (λ (row : RowValue). AreAtMostWithin c.args.number row.entries c.args.place c.max.result)
    c.self.view_is
    (at_most_within c.self.inside.map.entries c.self.inside.bounds.items c.args.number c.args.place
    c.max.result c.next_block-block.result c.self.invariant
    (λ each from below.
    subst (λ (bounds : List ℕ). slice_index bounds each ≤ c.args.number) c.deref.ensures.value
    (c.next_block-block.ensures.skipped each from below))
    (omega (arith, c.max.ensures, c.min.ensures)))
