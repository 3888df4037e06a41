use Rattle.std.proofs.Common.{sym, ap, subst, ◌∙◌, ℕ, cond, None, arith}
use Rattle.std.specs.List.{position, IsDistinct}
use Rattle.std.specs.Map.{lookup, keys_of}
use Rattle.std.proofs.Common.{◌++◌}
use Rattle.edge_store.specs.declared.edge.HalfEdge.{HalfEdge}
use Rattle.edge_store.specs.Edges.{same_half}
use Rattle.edge_store.proofs.Bounds.{below_taken}
use Rattle.edge_store.proofs.RowEntries.{either, lookup_both, more_changed}
use Rattle.edge_store.proofs.RowPlaces.{place_key, place_value, place_none, take_few, take_few_distinct, take_more_distinct}
use Rattle.edge_store.proofs.row.EdgeRow.take_out.Goals as goal

pub invariant_of-self : goal.invariant_of-self
invariant_of-self c =
    let found = ap (position (λ (each : HalfEdge × ℕ). same_half c.args.half each.0)) (sym c.as_slice.ensures)
    ∙ sym c.place.ensures.place ∙ c.in-Some.is in
    let within = (place_key c.self.inside.few.items c.args.half c.in-Some.at c.swap_remove.result found c.swap_remove.ensures.value).0 in
    record {
      short = omega (
        arith,
        c.swap_remove.ensures.len,
        c.self.invariant.short,
      );
      once = subst (λ few. IsDistinct same_half (keys_of (few ++ c.self.inside.more.entries)))
          (sym c.swap_remove.ensures.items)
          (take_few_distinct c.self.inside.few.items c.self.inside.more.entries c.in-Some.at
          c.swap_remove.result c.self.invariant.once within c.swap_remove.ensures.value);
      below = below_taken (c.self.inside.few.items ++ c.self.inside.more.entries)
          (c.swap_remove.new.self.items ++ c.self.inside.more.entries) c.args.half
          c.self.inside.most c.self.invariant.below
          (λ other. ap (λ few. lookup (same_half other) (few ++ c.self.inside.more.entries))
          c.swap_remove.ensures.items
          ∙ take_few c.self.inside.few.items c.self.inside.more.entries c.args.half c.in-Some.at
          c.swap_remove.result c.self.invariant.once found c.swap_remove.ensures.value other);
    }

pub returns-in-Some-clause-value : goal.returns-in-Some-clause-value
returns-in-Some-clause-value c =
    let found = ap (position (λ (each : HalfEdge × ℕ). same_half c.args.half each.0)) (sym c.as_slice.ensures)
    ∙ sym c.place.ensures.place ∙ c.in-Some.is in
    sym (place_value c.self.inside.few.items c.self.inside.more.entries c.args.half c.in-Some.at c.swap_remove.result c.self.invariant.once found
    c.swap_remove.ensures.value)
    ∙ ap (λ row. lookup (same_half c.args.half) row.entries) c.self.view_is

pub returns-in-Some-clause-rest : goal.returns-in-Some-clause-rest
returns-in-Some-clause-rest c other =
    let found = ap (position (λ (each : HalfEdge × ℕ). same_half c.args.half each.0)) (sym c.as_slice.ensures)
    ∙ sym c.place.ensures.place ∙ c.in-Some.is in
    ap (λ few. lookup (same_half other) (few ++ c.self.inside.more.entries)) c.swap_remove.ensures.items
    ∙ take_few c.self.inside.few.items c.self.inside.more.entries c.args.half c.in-Some.at c.swap_remove.result c.self.invariant.once found
    c.swap_remove.ensures.value other
    ∙ ap (λ row. cond (same_half c.args.half other) None (lookup (same_half other) row.entries)) c.self.view_is

pub invariant_of-self-in-None : goal.invariant_of-self-in-None
invariant_of-self-in-None c =
    let none = place_none c.self.inside.few.items c.args.half
    (ap (position (λ (each : HalfEdge × ℕ). same_half c.args.half each.0)) (sym c.as_slice.ensures)
    ∙ sym c.place.ensures.place ∙ c.in-None.is) in
    record {
      short = c.self.invariant.short;
      once = subst (λ more. IsDistinct same_half (keys_of (c.self.inside.few.items ++ more)))
          (sym c.take.ensures.entries)
          (take_more_distinct c.self.inside.few.items c.self.inside.more.entries c.args.half
          c.self.invariant.once);
      below = below_taken (c.self.inside.few.items ++ c.self.inside.more.entries)
          (c.self.inside.few.items ++ c.take.new.self.entries) c.args.half c.self.inside.most
          c.self.invariant.below
          (more_changed c.self.inside.few.items c.self.inside.more.entries c.take.new.self.entries
          c.args.half None none c.take.ensures.rest);
    }

pub returns-in-None-clause-value : goal.returns-in-None-clause-value
returns-in-None-clause-value c =
    let none = place_none c.self.inside.few.items c.args.half
    (ap (position (λ (each : HalfEdge × ℕ). same_half c.args.half each.0)) (sym c.as_slice.ensures)
    ∙ sym c.place.ensures.place ∙ c.in-None.is) in
    c.take.ensures.value
    ∙ sym (lookup_both (same_half c.args.half) c.self.inside.few.items c.self.inside.more.entries
    ∙ ap (λ found. either found (lookup (same_half c.args.half) c.self.inside.more.entries)) none)
    ∙ ap (λ row. lookup (same_half c.args.half) row.entries) c.self.view_is

pub returns-in-None-clause-rest : goal.returns-in-None-clause-rest
returns-in-None-clause-rest c other =
    let none = place_none c.self.inside.few.items c.args.half
    (ap (position (λ (each : HalfEdge × ℕ). same_half c.args.half each.0)) (sym c.as_slice.ensures)
    ∙ sym c.place.ensures.place ∙ c.in-None.is) in
    more_changed c.self.inside.few.items c.self.inside.more.entries c.take.new.self.entries c.args.half None none
    c.take.ensures.rest other
    ∙ ap (λ row. cond (same_half c.args.half other) None (lookup (same_half other) row.entries)) c.self.view_is
