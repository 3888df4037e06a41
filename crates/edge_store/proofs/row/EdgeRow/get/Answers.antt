use Rattle.std.proofs.Common.{◌<◌, ℕ, Some, length, get_or, sym, ap, subst, ◌∙◌}
use Rattle.std.proofs.lemmas.List.{get_or_default}
use Rattle.std.specs.List.{position}
use Rattle.std.specs.Map.{lookup}
use Rattle.edge_store.specs.declared.edge.HalfEdge.{HalfEdge}
use Rattle.edge_store.specs.Edges.{same_half}
use Rattle.edge_store.proofs.RowEntries.{either, lookup_both}
use Rattle.edge_store.proofs.RowPlaces.{place_value, place_none}
use Rattle.edge_store.proofs.row.EdgeRow.get.Goals as goal

pub returns-in-Some : goal.returns-in-Some
returns-in-Some c =
    let found = ap (position (λ (each : HalfEdge × ℕ). same_half c.args.half each.0)) (sym c.as_slice.ensures)
    ∙ sym c.place.ensures.place ∙ c.in-Some.is in
    let few = c.self.inside.few.items in
    let more = c.self.inside.more.entries in
    let at = c.in-Some.at in
    let none : HalfEdge × ℕ = (record { label = 0; far = 0 }, 0) in
    let within : at < length few =
    subst (λ each. at < length each) c.as_slice.ensures c.in-Some.ensures.within in
    let entry : HalfEdge × ℕ = get_or few at none in
    ap (λ each. Some (get_or each at none).1) c.as_slice-in-Some.ensures
    ∙ sym (place_value few more c.args.half at entry c.self.invariant.once found
    (get_or_default few at none entry within))
    ∙ ap (λ row. lookup (same_half c.args.half) row.entries) c.self.view_is

pub returns-in-None : goal.returns-in-None
returns-in-None c =
    let none = place_none c.self.inside.few.items c.args.half
    (ap (position (λ (each : HalfEdge × ℕ). same_half c.args.half each.0)) (sym c.as_slice.ensures)
    ∙ sym c.place.ensures.place ∙ c.in-None.is) in
    c.get.ensures
    ∙ sym (lookup_both (same_half c.args.half) c.self.inside.few.items c.self.inside.more.entries
    ∙ ap (λ found. either found (lookup (same_half c.args.half) c.self.inside.more.entries)) none)
    ∙ ap (λ row. lookup (same_half c.args.half) row.entries) c.self.view_is
