use Rattle.std.proofs.Common.{◌≡◌, ◌<◌, ◌≤◌, ◌⊎◌, ◌-◌, ◌/◌, true, is_some, length, cond, Some, sym, ap, subst, ◌∙◌, vec_len, vec_capacity, arith}
use Rattle.std.specs.Map.{values_of, lookup}
use Rattle.indexmap.specs.IndexMap.{spare, insert_entry}
use Rattle.edge_store.specs.Edges.{same_half}
use Rattle.edge_store.specs.Row.{RowValue}
use Rattle.edge_store.proofs.BlockBounds.{PutsAt, inserted, bounds_put, takes_in_map, takes_bound}
use Rattle.edge_store.proofs.edge_table.EdgeTable.put.Goals as goal
use Rattle.edge_store.proofs.edge_table.EdgeTable.put.Goals.{After-put_in-place}

pub put_in-place-requires : goal.put_in-place-requires
put_in-place-requires c =
    takes_in_map (lookup (same_half c.args.half) c.self.inside.map.entries)
    (spare c.self.inside.map) (vec_capacity c.self.inside.bounds - vec_len c.self.inside.bounds)
    (subst (λ (row : RowValue). (is_some (lookup (same_half c.args.half) row.entries) ≡ true)
    ⊎ (0 < row.room)) (sym c.self.view_is) c.requires)

-- what comes into the map
puts : (c : After-put_in-place) →
    PutsAt (values_of c.self.inside.map.entries) (values_of c.put_in-place.new.map.entries)
    c.put_in-place.result c.args.value
puts c =
    let old = c.self.inside.map.entries in
    subst (λ entries. PutsAt (values_of old) (values_of entries) c.put_in-place.result c.args.value)
    (sym c.put_in-place.ensures.entries)
    (subst (λ place. PutsAt (values_of old)
    (values_of (insert_entry same_half old c.args.half c.args.value)) place c.args.value)
    (sym c.put_in-place.ensures.place)
    (inserted old c.args.half c.args.value))

pub raise-requires-clause-next : goal.raise-requires-clause-next
raise-requires-clause-next c =
    omega (arith, (puts (goal.at.raise-requires-clause-next c).After-put_in-place).within, c.self.invariant.enough)

pub raise-requires-clause-room : goal.raise-requires-clause-room
raise-requires-clause-room c past =
    takes_bound c.self.inside.map.entries c.args.half c.self.inside.bounds.items
    (spare c.self.inside.map) (vec_len c.self.inside.bounds) (vec_capacity c.self.inside.bounds)
    c.self.invariant
    (subst (λ (row : RowValue). (is_some (lookup (same_half c.args.half) row.entries) ≡ true)
    ⊎ (0 < row.room)) (sym c.self.view_is) c.requires)
    (subst (λ place. length c.self.inside.bounds.items ≤ place / 32) c.put_in-place.ensures.place
    past)

pub invariant_of-self : goal.invariant_of-self
invariant_of-self c =
    bounds_put (values_of c.self.inside.map.entries) (values_of c.put_in-place.new.map.entries)
    c.self.inside.bounds.items c.raise.new.bounds.items c.put_in-place.result c.args.value
    c.self.invariant (puts (goal.at.invariant_of-self c).After-put_in-place) c.raise.ensures

pub returns-clause-entries : goal.returns-clause-entries
returns-clause-entries c =
    c.put_in-place.ensures.entries
    ∙ ap (λ (row : RowValue). insert_entry same_half row.entries c.args.half c.args.value)
    c.self.view_is

pub returns-clause-update : goal.returns-clause-update
returns-clause-update c other =
    c.put_in-place.ensures.update other
    ∙ ap (λ (row : RowValue). cond (same_half c.args.half other) (Some c.args.value)
    (lookup (same_half other) row.entries)) c.self.view_is
