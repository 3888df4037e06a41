-- The batches by the edges that leave a place.
use Rattle.std.proofs.Common.{◌≡◌, ℕ, ◌≤◌, ◌<◌, ◌+◌, inl, inr, ⊎_elim, Bool, true, false, ◌&&◌, cond, List, length, Option, Some, refl, sym, ap, subst, ◌∙◌, arith, Contains, slice_get}
use Rattle.std.proofs.lemmas.Bool.{cases_eq, cases_lt}
use Rattle.std.proofs.lemmas.List.Elements.{All-contains}
use Rattle.std.proofs.lemmas.Option.{same_Some, slice_get_read, slice_get_within, get_or_from_slice_get}
use Rattle.edge_store.specs.declared.edge.EdgeId.{EdgeId}
use Rattle.edge_store.specs.declared.edge.HalfEdge.{HalfEdge}
use Rattle.edge_store.specs.declared.edge.Out.{Out}
use Rattle.edge_store.specs.Edges.{AreAtMost, outs_of, out_entry, out_half, leaving, value_of, GivesOuts, same_edge}
use Rattle.delta_tree.specs.Nodes.{node_id}
use Rattle.delta_tree.proofs.Ids.{same_edge_is}
use Rattle.tree_insert.specs.Best.{IsAtLeast}
use Rattle.tree_insert.proofs.Bests.{at_least, weaker}
use Rattle.tree_insert.proofs.Bests as bests
use Rattle.wide_search.specs.declared.batch.Batch.{Batch}
use Rattle.wide_search.specs.declared.graph.Graph.{Graph}
use Rattle.wide_search.specs.declared.offers.Span.{Span}
use Rattle.wide_search.specs.Batches.{BatchesValue, Gains, target_of}
use Rattle.wide_search.specs.Widths.{is_pending, widths}
use Rattle.wide_search.specs.Spans.{widths_in, HasRaised, IsOffered}

-- ---- gains of batches

pub gains_twice : (old middle new : BatchesValue) (kind : Batch → Type 0) → Gains old middle kind →
    Gains middle new kind → Gains old new kind
gains_twice old middle new kind first second = record {
  kept = λ each there. second.kept each (first.kept each there);
  only = λ each there. ⊎_elim (λ was. first.only each was) (λ is. inr is) (second.only each there);
  level = second.level ∙ first.level;
}

pub gains_kind : (old new : BatchesValue) (kind other : Batch → Type 0) → Gains old new kind →
    ((each : Batch) → kind each → other each) → Gains old new other
gains_kind old new kind other gains same = record {
  kept = gains.kept;
  only = λ each there. ⊎_elim (λ was. inl was) (λ is. inr (same each is)) (gains.only each there);
  level = gains.level;
}

-- ---- widths

-- no width is above the value of its edge
pub widths_within : (values : EdgeId → Option ℕ) (edge : EdgeId) (before : Option ℕ)
    (pending : List ℕ) → ((number : ℕ) → IsAtLeast number before → IsAtLeast number (values edge)) →
    (state number : ℕ) (each : EdgeId) →
    IsAtLeast number (widths values edge before pending state each) → IsAtLeast number (values each)
widths_within values edge before pending raised state number each = by (same_edge each edge) refl
    (is_pending pending state)
  where
    by : (same : Bool) → same_edge each edge ≡ same → (at : Bool) →
        IsAtLeast number (cond (same && at) before (values each)) → IsAtLeast number (values each)
    by true same true wide =
        subst (λ (e : EdgeId). IsAtLeast number (values e)) (sym (same_edge_is each edge same))
        (raised number wide)
    by true same false wide = wide
    by false same true wide = wide
    by false same false wide = wide

-- ---- the edges that leave a place

-- what the first edges of a walk can give is offered
abbrev pub AreOfferedUpTo : Graph → Span → List Batch → List (HalfEdge × ℕ) → ℕ → Type 0
AreOfferedUpTo graph span waiting outs k =
    (place : ℕ) (half : HalfEdge) (here : ℕ) → place < k →
    slice_get outs place ≡ Some (half, here) →
    IsOffered graph span waiting (leaving span.id.vertex half)

module _ (graph : Graph) (span : Span) where
  pub offered_more : (waiting more : List Batch) (edge : EdgeId) →
      ((each : Batch) → Contains waiting each → Contains more each) →
      IsOffered graph span waiting edge → IsOffered graph span more edge
  offered_more waiting more edge kept offered number next low wide leads = ⊎_elim
      (λ (has : (other : Batch) × Contains waiting other × (target_of other ≡ node_id edge.to next)
      × (number ≤ other.width)). inl (has.0, kept has.0 has.1, has.2, has.3))
      (λ (had : IsAtLeast number span.least). inr had)
      (offered number next low wide leads)

  module _ (outs : List (HalfEdge × ℕ)) where
    pub none_offered : (waiting : List Batch) → AreOfferedUpTo graph span waiting outs 0
    none_offered waiting place half here below there = absurd (omega (arith, below))

    pub one_offered : (waiting more : List Batch) (k : ℕ) (out : Out) →
        AreOfferedUpTo graph span waiting outs k →
        ((each : Batch) → Contains waiting each → Contains more each) →
        slice_get outs k ≡ Some (out_entry out) →
        IsOffered graph span more (leaving span.id.vertex (out_entry out).0) →
        AreOfferedUpTo graph span more outs (k + 1)
    one_offered waiting more k out offered kept is one place half here below there = ⊎_elim
        (λ (same : place ≡ k).
        let entry : out_entry out ≡ (half, here) =
        same_Some (out_entry out) (half, here) (sym is ∙ (ap (slice_get outs) (sym same) ∙ there))
        in
        subst (λ (each : HalfEdge × ℕ). IsOffered graph span more (leaving span.id.vertex each.0))
        entry one)
        (λ (apart : place ≡ k → ⊥).
        offered_more waiting more (leaving span.id.vertex half) kept
        (offered place half here (omega (arith, below, apart)) there))
        (cases_eq place k)

module _ (graph : Graph) (span : Span) (raised : HasRaised graph)
    (gives : GivesOuts graph.store.now span.id.vertex) where
  -- the value of an edge that has a width
  there : (edge : EdgeId) (number : ℕ) → IsAtLeast number (widths_in graph span.id.state edge) →
      (value : ℕ) × (value_of graph.store.now edge ≡ Some value) × (number ≤ value)
  there edge number wide =
      bests.value_of (value_of graph.store.now edge) number
      (widths_within (value_of graph.store.now) graph.edge graph.before graph.pending.now raised
      span.id.state number edge wide)

  -- edges that are passed over could give as much before
  pub offered_beyond : (waiting : List Batch) (k next : ℕ) →
      AreOfferedUpTo graph span waiting (outs_of graph.store.now span.id.vertex) k →
      ((each : ℕ) (entry : HalfEdge × ℕ) → k ≤ each → each < next →
      slice_get (outs_of graph.store.now span.id.vertex) each ≡ Some entry →
      IsAtLeast entry.1 span.least) →
      AreOfferedUpTo graph span waiting (outs_of graph.store.now span.id.vertex) next
  offered_beyond waiting k next offered beyond place half here below at number to low wide leads =
      ⊎_elim
      (λ (early : place < k). offered place half here early at number to low wide leads)
      (λ (late : k ≤ place).
      let value = there (leaving span.id.vertex half) number wide in
      let has : Contains (outs_of graph.store.now span.id.vertex) (half, here) = (
        place,
        slice_get_within (outs_of graph.store.now span.id.vertex) place (half, here) at,
        get_or_from_slice_get (outs_of graph.store.now span.id.vertex) place (half, here)
            (half, here) at,
      ) in
      let is : value_of graph.store.now (leaving span.id.vertex half) ≡ Some here =
      (gives.exact half here).0 has in
      let same : value.0 ≡ here = same_Some value.0 here (sym value.1 ∙ is) in
      inr (weaker span.least here number (beyond place (half, here) late below at)
      (omega (arith, same, value.2))))
      (cases_lt place k)

  -- the entry of an edge
  entry_there : (edge : EdgeId) (value : ℕ) → edge.from ≡ span.id.vertex →
      value_of graph.store.now edge ≡ Some value →
      Contains (outs_of graph.store.now span.id.vertex) (out_half edge, value)
  entry_there edge value from is =
      let same : leaving span.id.vertex (out_half edge) ≡ edge =
      λ i. record { from = sym from i; label = edge.label; to = edge.to } in
      (gives.exact (out_half edge) value).1 (ap (value_of graph.store.now) same ∙ is)

  pub offered_all : (waiting : List Batch) →
      AreOfferedUpTo graph span waiting (outs_of graph.store.now span.id.vertex)
      (length (outs_of graph.store.now span.id.vertex)) →
      (edge : EdgeId) → edge.from ≡ span.id.vertex → IsOffered graph span waiting edge
  offered_all waiting offered edge from number next low wide leads =
      let outs = outs_of graph.store.now span.id.vertex in
      let value = there edge number wide in
      let half = out_half edge in
      let has = entry_there edge value.0 from value.1 in
      let at = slice_get_read outs (length outs) has.0 (half, value.0) refl has.1 (sym has.2) in
      let same : leaving span.id.vertex half ≡ edge =
      λ i. record { from = sym from i; label = edge.label; to = edge.to } in
      offered has.0 half value.0 has.1 at number next low
      (subst (λ (e : EdgeId). IsAtLeast number (widths_in graph span.id.state e)) (sym same) wide)
      leads

  -- where no edge has a value above the one before, none needs to be offered
  pub offered_before : (waiting : List Batch) (most : ℕ) →
      AreAtMost most (outs_of graph.store.now span.id.vertex) → IsAtLeast most span.least →
      (edge : EdgeId) → edge.from ≡ span.id.vertex → IsOffered graph span waiting edge
  offered_before waiting most bound least edge from number next low wide leads =
      let outs = outs_of graph.store.now span.id.vertex in
      let value = there edge number wide in
      let has = entry_there edge value.0 from value.1 in
      let below : value.0 ≤ most =
      All-contains (λ (entry : HalfEdge × ℕ). entry.1 ≤ most) outs (out_half edge, value.0) bound
      has in
      inr (weaker span.least most number least (omega (arith, value.2, below)))
