-- Both sides of a store.
use Rattle.std.proofs.Common.{◌≡◌, ◌<◌, ℕ, Bool, true, false, ◌&&◌, ◌==◌, cond, List, refl, sym, ap, ap₂, ◌∙◌, Option, None, Some, nat_lt}
use Rattle.std.proofs.lemmas.Bool.{lt-ltb}
use Rattle.std.specs.List.{IsDistinct}
use Rattle.std.specs.Map.{lookup, keys_of}
use Rattle.std.proofs.lemmas.Map.Views.{Contains-from_lookup, lookup-from_Contains}
use Rattle.edge_store.specs.declared.edge.EdgeId.{EdgeId}
use Rattle.edge_store.specs.declared.edge.HalfEdge.{HalfEdge}
use Rattle.edge_store.specs.Edges.{Edges, row, value_of, same_half, same_edge, out_half, in_half, ending, Updates, GivesOuts, GivesIns, above, Expires}
use Rattle.edge_store.specs.Rows.{Writes, HasSameRows, Agree, sides}
use Rattle.edge_store.proofs.Halves.{turned, same_half_is, same_edge_is, same_half_laws}

-- sides on which the same is written agree
pub agree_after : (outs outs' ins ins' : List (List (HalfEdge × ℕ))) (edge : EdgeId) (value : Option ℕ) →
    Agree outs ins → Writes outs outs' edge.from (out_half edge) value → Writes ins ins' edge.to (in_half edge) value →
    Agree outs' ins'
agree_after outs outs' ins ins' edge value agree out_writes in_writes each =
    in_writes each.to (in_half each)
    ∙ ap₂ (λ (test : Bool) (old : Option ℕ). cond test value old)
    (turned (edge.to == each.to) (edge.label == each.label) (edge.from == each.from)) (agree each)
    ∙ sym (out_writes each.from (out_half each))

-- what is written into rows that hold what others held
pub writes_same : (old rows new : List (List (HalfEdge × ℕ))) (vertex : ℕ) (half : HalfEdge)
    (value : Option ℕ) →
    HasSameRows old rows → Writes rows new vertex half value → Writes old new vertex half value
writes_same old rows new vertex half value same writes each other =
    writes each other
    ∙ ap (λ entries. cond ((vertex == each) && same_half half other) value
    (lookup (same_half other) entries)) (same each)

-- what is written on the side of the vertices that edges leave
pub updates_after : (outs outs' ins ins' : List (List (HalfEdge × ℕ))) (edge : EdgeId) (value : Option ℕ) →
    Writes outs outs' edge.from (out_half edge) value → Updates (sides outs ins) (sides outs' ins') edge value
updates_after outs outs' ins ins' edge value writes each = writes each.from (out_half each)

-- ---- walks

pub gives_outs : (store : Edges) (vertex : ℕ) → IsDistinct same_half (keys_of (row store.outs vertex)) → GivesOuts store vertex
gives_outs store vertex distinct = record {
  exact = λ half value. (
    (λ there. lookup-from_Contains same_half_laws half value (row store.outs vertex) distinct there),
    (λ is. Contains-from_lookup same_half_is half value (row store.outs vertex) is),
  );
  once = distinct;
}

pub gives_ins : (store : Edges) (vertex : ℕ) → Agree store.outs store.ins → IsDistinct same_half (keys_of (row store.ins vertex)) →
    GivesIns store vertex
gives_ins store vertex agree distinct = record {
  exact = λ half value. (
    (λ there. sym (agree (ending vertex half)) ∙ lookup-from_Contains same_half_laws half value (row store.ins vertex) distinct there),
    (λ is. Contains-from_lookup same_half_is half value (row store.ins vertex) (agree (ending vertex half) ∙ is)),
  );
  once = distinct;
}

-- ---- values above a clock

pub above_twice : (now : ℕ) (value : Option ℕ) → above now (above now value) ≡ above now value
above_twice now None = refl
above_twice now (Some value) = by (nat_lt now value) refl
  where
    by : (b : Bool) → nat_lt now value ≡ b → above now (cond b (Some value) None) ≡ cond b (Some value) None
    by true is = ap (λ (test : Bool). cond test (Some value) None) is
    by false is = refl

-- the edges above a clock have the same values in both stores, and the others are in neither
abbrev pub KeepsAbove : ℕ → Edges → Edges → Type 0
KeepsAbove now old new = (edge : EdgeId) → above now (value_of new edge) ≡ above now (value_of old edge)

-- an edge at most at the clock goes
pub keeps_above : (now : ℕ) (first old new : Edges) (edge : EdgeId) → KeepsAbove now first old →
    Updates old new edge (above now (value_of old edge)) → KeepsAbove now first new
keeps_above now first old new edge kept update each =
    ap (above now) (update each) ∙ by (same_edge edge each) refl ∙ kept each
  where
    by : (b : Bool) → same_edge edge each ≡ b →
        above now (cond b (above now (value_of old edge)) (value_of old each)) ≡ above now (value_of old each)
    by true same = above_twice now (value_of old edge) ∙ ap (λ e. above now (value_of old e)) (same_edge_is edge each same)
    by false apart = refl

-- where all values are above the clock, they are the values above it
pub expires : (now : ℕ) (first last : Edges) → KeepsAbove now first last →
    ((edge : EdgeId) (value : ℕ) → value_of last edge ≡ Some value → now < value) → Expires first last now
expires now first last kept later each = by (value_of last each) refl ∙ kept each
  where
    by : (value : Option ℕ) → value_of last each ≡ value → value ≡ above now value
    by None is = refl
    by (Some value) is = ap (λ (test : Bool). cond test (Some value) None) (sym (is_below (later each value is)))
      where
        is_below : now < value → nat_lt now value ≡ true
        is_below less = lt-ltb now value less
