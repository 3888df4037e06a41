use Rattle.std.proofs.Common.{◌≡◌, ◌<◌, ◌≤◌, ◌++◌, ◌∷◌, [], length, sym, ap, subst, ◌∙◌, ℕ, cond, Some, None, inl, arith}
use Rattle.std.proofs.lemmas.List.{length-set, length_push}
use Rattle.std.specs.List.{position, IsDistinct}
use Rattle.std.specs.Map.{keys_of, lookup}
use Rattle.edge_store.specs.declared.edge.HalfEdge.{HalfEdge}
use Rattle.edge_store.specs.Edges.{same_half}
use Rattle.edge_store.specs.Row.{room_of, Takes}
use Rattle.edge_store.proofs.Bounds.{below_put}
use Rattle.edge_store.proofs.RowEntries.{few_changed, more_changed, pushed}
use Rattle.edge_store.proofs.RowPlaces.{place_none, set_half, set_half_distinct, push_distinct, insert_distinct, few_room, new_room, map_takes, none_from_test}
use Rattle.edge_store.proofs.row.EdgeRow.put.Goals as goal
use Rattle.edge_store.proofs.row.EdgeRow.put.Goals.{In-Some, else-len-lt-FEW-via-then-len-lt-FEW+else-not-contains, else-len-lt-FEW-via-else-len-lt-FEW}

-- the edge is found in the list
found : (c : In-Some) →
    position (λ (each : HalfEdge × ℕ). same_half c.args.half each.0) c.self.inside.few.items
    ≡ Some c.in-Some.at
found c =
    ap (position (λ (each : HalfEdge × ℕ). same_half c.args.half each.0)) (sym c.as_slice.ensures)
    ∙ sym c.place.ensures.place ∙ c.in-Some.is

-- at a place of it
within : (c : In-Some) → c.in-Some.at < length c.self.inside.few.items
within c = subst (λ few. c.in-Some.at < length few) c.as_slice.ensures c.in-Some.ensures.within

pub set-requires : goal.set-requires
set-requires c = within (goal.at.set-requires c).In-Some

pub invariant_of-self : goal.invariant_of-self
invariant_of-self c =
    let few = c.self.inside.few.items in
    let more = c.self.inside.more.entries in
    let at = (goal.at.invariant_of-self c).In-Some in
    record {
      short = omega (
        arith,
        ap length c.set.ensures,
        length-set few c.in-Some.at (c.args.half, c.args.value),
        c.self.invariant.short,
      );
      once = subst (λ after. IsDistinct same_half (keys_of (after ++ more))) (sym c.set.ensures)
          (set_half_distinct few more c.args.half c.in-Some.at c.args.value c.self.invariant.once
          (found at) (within at));
      below = below_put (few ++ more) (c.set.new.few.items ++ more) c.args.half c.args.value
          c.self.inside.most c.max-self-inside.result c.self.invariant.below
          c.max-self-inside.ensures
          (λ other. ap (λ after. lookup (same_half other) (after ++ more)) c.set.ensures
          ∙ set_half few more c.args.half c.in-Some.at c.args.value c.self.invariant.once
          (found at) (within at) other);
    }

pub returns-in-Some : goal.returns-in-Some
returns-in-Some c other =
    let few = c.self.inside.few.items in
    let more = c.self.inside.more.entries in
    let at = (goal.at.returns-in-Some c).In-Some in
    ap (λ after. lookup (same_half other) (after ++ more)) c.set.ensures
    ∙ set_half few more c.args.half c.in-Some.at c.args.value c.self.invariant.once (found at)
    (within at) other
    ∙ ap (λ row. cond (same_half c.args.half other) (Some c.args.value)
    (lookup (same_half other) row.entries)) c.self.view_is

-- the list hasn't got the edge
few_none : (c : goal.After-push_reserved) → lookup (same_half c.args.half) c.self.inside.few.items ≡ None
few_none c = place_none c.self.inside.few.items c.args.half
    (ap (position (λ (each : HalfEdge × ℕ). same_half c.args.half each.0)) (sym c.as_slice.ensures)
    ∙ sym c.place.ensures.place ∙ c.in_default.is)

-- nor the map
more_none : (c : goal.After-push_reserved) → lookup (same_half c.args.half) c.self.inside.more.entries ≡ None
more_none c = none_from_test (lookup (same_half c.args.half) c.self.inside.more.entries) (sym c.if-not-contains.ensures)

-- and it has room
pub push_reserved-requires : goal.push_reserved-requires
push_reserved-requires c =
    let few = c.self.inside.few.items in
    let takes = subst (λ row. Takes row c.args.half) (sym c.self.view_is) c.requires in
    let none = place_none few c.args.half
    (ap (position (λ (each : HalfEdge × ℕ). same_half c.args.half each.0)) (sym c.as_slice.ensures)
    ∙ sym c.place.ensures.place ∙ c.in_default.is) in
    let nowhere = none_from_test (lookup (same_half c.args.half) c.self.inside.more.entries)
    (sym c.if-not-contains.ensures) in
    let room = new_room few c.self.inside.more.entries c.args.half
    (room_of few c.self.inside.few.capacity c.self.inside.more.room) takes none nowhere in
    let short : length few < 16 = omega (arith, c.if-len-lt-FEW.true, c.len.ensures.value) in
    let below = few_room few c.self.inside.few.capacity c.self.inside.more.room short room in
    omega (arith, below)

-- so this edge alone is new
few_more : (c : goal.After-push_reserved) (other : HalfEdge) →
    lookup (same_half other) (c.push_reserved.new.self.items ++ c.self.inside.more.entries)
    ≡ cond (same_half c.args.half other) (Some c.args.value)
    (lookup (same_half other) (c.self.inside.few.items ++ c.self.inside.more.entries))
few_more c other =
    ap (λ few. lookup (same_half other) (few ++ c.self.inside.more.entries)) c.push_reserved.ensures.items
    ∙ few_changed c.self.inside.few.items
    (c.self.inside.few.items ++ (c.args.half, c.args.value) ∷ []) c.self.inside.more.entries
    c.args.half (Some c.args.value) (λ _. more_none c)
    (pushed c.self.inside.few.items c.args.half c.args.value (few_none c)) other

pub invariant_of-self-then-not-contains : goal.invariant_of-self-then-not-contains
invariant_of-self-then-not-contains c = record {
  short = omega (
    arith,
    ap length c.push_reserved.ensures.items,
    length_push c.self.inside.few.items (c.args.half, c.args.value),
    c.if-len-lt-FEW.true,
    c.len.ensures.value,
  );
  once = subst (λ few. IsDistinct same_half (keys_of (few ++ c.self.inside.more.entries)))
      (sym c.push_reserved.ensures.items)
      (push_distinct c.self.inside.few.items c.self.inside.more.entries c.args.half c.args.value
      c.self.invariant.once (few_none c) (more_none c));
  below = below_put (c.self.inside.few.items ++ c.self.inside.more.entries)
      (c.push_reserved.new.self.items ++ c.self.inside.more.entries) c.args.half c.args.value
      c.self.inside.most c.max-self-inside.result c.self.invariant.below c.max-self-inside.ensures (few_more c);
}

pub returns-then-not-contains : goal.returns-then-not-contains
returns-then-not-contains c other =
    few_more c other
    ∙ ap (λ row. cond (same_half c.args.half other) (Some c.args.value) (lookup (same_half other) row.entries)) c.self.view_is

-- the list hasn't got the edge
list_none : (c : goal.After-put) → lookup (same_half c.args.half) c.self.inside.few.items ≡ None
list_none c = place_none c.self.inside.few.items c.args.half
    (ap (position (λ (each : HalfEdge × ℕ). same_half c.args.half each.0)) (sym c.as_slice.ensures)
    ∙ sym c.place.ensures.place ∙ c.in_default.is)

-- it is there already, or the map has room
pub put-requires : goal.put-requires
put-requires c =
    elim c.else-len-lt-FEW.branch [
      | else-len-lt-FEW-via-then-len-lt-FEW+else-not-contains w ↦ inl (sym w.if-not-contains.ensures)
      | else-len-lt-FEW-via-else-len-lt-FEW w ↦
          let takes = subst (λ row. Takes row c.args.half) (sym c.self.view_is) c.requires in
          let long : 16 ≤ length c.self.inside.few.items = omega (arith, w.if-len-lt-FEW.false, c.len.ensures.value) in
          let none = place_none c.self.inside.few.items c.args.half
          (ap (position (λ (each : HalfEdge × ℕ). same_half c.args.half each.0))
          (sym c.as_slice.ensures) ∙ sym c.place.ensures.place ∙ c.in_default.is) in
          map_takes c.self.inside.few.items c.self.inside.more.entries c.args.half
          c.self.inside.few.capacity c.self.inside.more.room takes none long
    ]

pub invariant_of-self-2 : goal.invariant_of-self-2
invariant_of-self-2 c =
    record {
      short = c.self.invariant.short;
      once = subst (λ more. IsDistinct same_half (keys_of (c.self.inside.few.items ++ more)))
          (sym c.put.ensures.entries)
          (insert_distinct c.self.inside.few.items c.self.inside.more.entries c.args.half
          c.args.value c.self.invariant.once (list_none c));
      below = below_put (c.self.inside.few.items ++ c.self.inside.more.entries)
          (c.self.inside.few.items ++ c.put.new.self.entries) c.args.half c.args.value
          c.self.inside.most c.max-self-inside.result c.self.invariant.below c.max-self-inside.ensures
          (more_changed c.self.inside.few.items c.self.inside.more.entries c.put.new.self.entries
          c.args.half (Some c.args.value) (list_none c) c.put.ensures.update);
    }

pub returns : goal.returns
returns c other =
    more_changed c.self.inside.few.items c.self.inside.more.entries c.put.new.self.entries c.args.half (Some c.args.value) (list_none c)
    c.put.ensures.update other
    ∙ ap (λ row. cond (same_half c.args.half other) (Some c.args.value) (lookup (same_half other) row.entries)) c.self.view_is
