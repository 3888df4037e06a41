use Rattle.std.proofs.Common.{◌+◌, length, length-append, refl, ap, subst, arith}
use Rattle.edge_store.specs.Edges.{AreAtMostWithin}
use Rattle.edge_store.specs.Row.{RowValue}
use Rattle.edge_store.proofs.BlockBounds.{at_most_behind}
use Rattle.edge_store.proofs.row.EdgeRow.next_above.Goals as goal

pub overflow_add-result : goal.overflow_add-result
overflow_add-result c =
    omega (
      arith,
      c.len-few.ensures.value,
      c.next_above.ensures.within,
      c.next_above.ensures.small,
      c.ranges.place,
    )

pub returns-clause-within : goal.returns-clause-within
returns-clause-within c =
    omega (
      arith,
      c.next_above.ensures.within,
      c.len-few.ensures.value,
      length-append c.self.inside.few.items c.self.inside.more.entries,
      ap (λ (row : RowValue). length row.entries) c.self.view_is,
    )

pub returns-clause-skipped : goal.returns-clause-skipped
returns-clause-skipped c =
    let end = c.len-few.result + c.next_above.result in
    subst (λ (row : RowValue). AreAtMostWithin c.args.number row.entries c.args.place end)
    c.self.view_is
    (at_most_behind c.self.inside.few.items c.self.inside.more.entries c.args.number
    c.len-few.result c.args.place c.next_above.result end
    c.len-few.ensures.value (omega arith) refl
    c.next_above.ensures.skipped)
