use Rattle.std.proofs.Common.{◌/◌, sym, subst, arith}
use Rattle.std.specs.Map.{values_of}
use Rattle.edge_store.specs.Blocks.{AreBounds, RaisesBound}
use Rattle.edge_store.proofs.BlockBounds.{TakesFrom, removed, bounds_taken, values_len}
use Rattle.edge_store.proofs.edge_table.EdgeTable.take.Goals as goal
use Rattle.edge_store.proofs.edge_table.EdgeTable.take.Goals.{In_ok-place}

-- what goes out of the map
takes : (c : In_ok-place) →
    TakesFrom (values_of c.self.inside.map.entries) (values_of c.swap_remove_full.new.self.entries)
    c.in_ok-place.place
takes c =
    subst (λ entries. TakesFrom (values_of c.self.inside.map.entries) (values_of entries)
    c.in_ok-place.place)
    (sym c.swap_remove_full.ensures.entries)
    (removed c.self.inside.map.entries c.args.half c.in_ok-place.place
    (sym c.in_ok-place.ensures.index))

pub raise-requires-clause-next : goal.raise-requires-clause-next
raise-requires-clause-next c =
    omega (
      arith,
      (takes (goal.at.raise-requires-clause-next c).In_ok-place).within,
      c.self.invariant.enough,
    )

pub raise-requires-clause-room : goal.raise-requires-clause-room
raise-requires-clause-room c past =
    absurd (omega (
      arith,
      past,
      (takes (goal.at.raise-requires-clause-room c).In_ok-place).within,
      c.self.invariant.enough,
    ))

pub invariant_of-self : goal.invariant_of-self
invariant_of-self c =
    subst (λ entries. AreBounds (values_of entries) c.self.inside.bounds.items)
    (sym c.in_err-place.ensures.unchanged) c.self.invariant

pub invariant_of-self-2 : goal.invariant_of-self-2
invariant_of-self-2 c =
    let old = values_of c.self.inside.map.entries in
    let new = values_of c.swap_remove_full.new.self.entries in
    let place = c.in_ok-place.place in
    subst (AreBounds new) (sym c.truncate.ensures.items)
    (bounds_taken old new c.self.inside.bounds.items c.raise.new.bounds.items place
    c.div_ceil.result c.self.invariant (takes (goal.at.invariant_of-self-2 c).In_ok-place)
    (subst (RaisesBound c.self.inside.bounds.items c.raise.new.bounds.items (place / 32))
    c.value_at.ensures c.raise.ensures)
    (omega (
      arith,
      c.div_ceil.ensures,
      c.len.ensures.len,
      values_len c.swap_remove_full.new.self.entries,
    ))
    (omega (
      arith,
      c.div_ceil.ensures,
      c.len.ensures.len,
      values_len c.swap_remove_full.new.self.entries,
    )))
