-- Edges that are noted with their values.
use Rattle.std.proofs.Common.{◌≡◌, ◌≤◌, ◌<◌, ℕ, Bool, true, false, inl, inr, cond, List, ◌∷◌, refl, sym, ap, subst, ◌∙◌, true≢false, Option, None, Some, nat_lt, Contains, IsPermutation, arith}
use Rattle.std.proofs.lemmas.Bool.{ltb-true}
use Rattle.std.proofs.lemmas.Option.{same_Some}
use Rattle.due_queue.specs.declared.due.Due.{Due}
use Rattle.due_queue.specs.Queue.{due, Notes}
use Rattle.due_queue.proofs.Items.{left_over, now_noted, still_noted}
use Rattle.edge_store.specs.declared.edge.EdgeId.{EdgeId}
use Rattle.edge_store.specs.Edges.{Edges, value_of, same_edge, Updates, above}
use Rattle.edge_store.specs.Dues.{IsNoted}
use Rattle.edge_store.proofs.Halves.{same_edge_is, same_edge_itself}

-- a value above a clock
above_some : (now : ℕ) (old : Option ℕ) (value : ℕ) → above now old ≡ Some value → (old ≡ Some value) × (now < value)
above_some now None value is = absurd cc
above_some now (Some kept) value is = by (nat_lt now kept) refl is
  where
    by : (b : Bool) → nat_lt now kept ≡ b → cond b (Some kept) None ≡ Some value → (Some kept ≡ Some value) × (now < value)
    by true below same =
        let equal : kept ≡ value = cc in
        (same, subst (λ n. now < n) equal (ltb-true now kept below))
    by false past same = absurd cc

-- an edge that got a value is noted with it, and the others still are
pub noted_put : (old new : Edges) (dues after : List (Due EdgeId)) (edge : EdgeId) (value : ℕ) →
    IsNoted old.outs dues → Notes dues after (due edge value) →
    Updates old new edge (Some value) → IsNoted new.outs after
noted_put old new dues after edge value noted notes update each other is =
    by (same_edge edge each) refl
  where
    by : (b : Bool) → same_edge edge each ≡ b → Contains after (due each other)
    by true same =
        let found : Some value ≡ Some other =
        sym (ap (λ b. cond b (Some value) (value_of old each)) same) ∙ sym (update each) ∙ is in
        subst (λ n. Contains after (due each n)) (same_Some value other found)
        (subst (λ e. Contains after (due e value)) (same_edge_is edge each same)
        (now_noted dues after (due edge value) notes))
    by false apart =
        let found : value_of old each ≡ Some other =
        sym (ap (λ b. cond b (Some value) (value_of old each)) apart) ∙ sym (update each) ∙ is in
        still_noted dues after (due edge value) (due each other) notes (noted each other found)

-- an edge of a value at most the clock leaves both the store and the queue
pub noted_after : (old new : Edges) (dues rest : List (Due EdgeId)) (next : Due EdgeId) (now : ℕ) →
    IsNoted old.outs dues → IsPermutation dues (next ∷ rest) → next.number ≤ now →
    Updates old new next.item (above now (value_of old next.item)) → IsNoted new.outs rest
noted_after old new dues rest next now noted taken reached update each value is =
    by (same_edge next.item each) refl
  where
    still : (value_of old each ≡ Some value) → (next.item ≡ each → value ≤ now → ⊥) →
        Contains rest (due each value)
    still there stays =
        elim (left_over dues rest next (due each value) taken (noted each value there)) [
          | inl here ↦ here
          | inr gone ↦ absurd (stays (ap (λ (d : Due EdgeId). d.item) gone)
              (omega (arith, ap (λ (d : Due EdgeId). d.number) gone, reached)))
        ]

    by : (b : Bool) → same_edge next.item each ≡ b → Contains rest (due each value)
    by true same =
        let at : next.item ≡ each = same_edge_is next.item each same in
        let found : above now (value_of old next.item) ≡ Some value =
        sym (ap (λ b. cond b (above now (value_of old next.item)) (value_of old each)) same)
        ∙ sym (update each) ∙ is in
        let both = above_some now (value_of old next.item) value found in
        still (sym (ap (value_of old) at) ∙ both.0) (λ _ past. omega (arith, both.1, past))
    by false apart =
        let found : value_of old each ≡ Some value =
        sym (ap (λ b. cond b (above now (value_of old next.item)) (value_of old each)) apart)
        ∙ sym (update each) ∙ is in
        still found (λ at _. true≢false
        (sym (same_edge_itself each) ∙ ap (λ e. same_edge e each) (sym at) ∙ apart))
