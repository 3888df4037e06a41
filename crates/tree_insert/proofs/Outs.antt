-- The tries by the edges that leave a node.
use Rattle.std.proofs.Common.{◌≡◌, ℕ, ◌≤◌, ◌<◌, ◌+◌, ⊎_elim, List, length, Option, Some, refl, sym, ap, subst, ◌∙◌, arith, Contains, slice_get}
use Rattle.std.proofs.lemmas.Bool.{cases_eq, cases_lt}
use Rattle.std.proofs.lemmas.List.Elements.{All-contains}
use Rattle.std.proofs.lemmas.Option.{same_Some, slice_get_read, slice_get_within, get_or_from_slice_get}
use Rattle.edge_store.specs.declared.edge.EdgeId.{EdgeId}
use Rattle.edge_store.specs.declared.edge.HalfEdge.{HalfEdge}
use Rattle.edge_store.specs.declared.edge.Out.{Out}
use Rattle.edge_store.specs.Edges.{AreAtMost, Edges, outs_of, out_entry, out_half, leaving, value_of, GivesOuts}
use Rattle.dfa_table.specs.DfaValue.{DfaValue, step_of}
use Rattle.delta_tree.specs.declared.node.NodeId.{NodeId}
use Rattle.delta_tree.specs.Nodes.{TreeValue, node_id}
use Rattle.tree_insert.specs.declared.waiting.Waiting.{Waiting}
use Rattle.tree_insert.specs.Best.{IsAtLeast}
use Rattle.tree_insert.specs.UnderWay.{IsOut, IsServed, IsServedFrom, Leaves}
use Rattle.tree_insert.proofs.Bests.{at_least, weaker}
use Rattle.tree_insert.proofs.Bests as bests
use Rattle.tree_insert.proofs.UnderWay.{served_more}

-- what the first edges of a walk could give, and not with the value before, is there, or waits
abbrev pub AreServedUpTo : DfaValue → TreeValue → List Waiting → NodeId → ℕ → Option ℕ →
    List (HalfEdge × ℕ) → ℕ → Type 0
AreServedUpTo dfa tree waits id value before outs k =
    (place : ℕ) (half : HalfEdge) (here number state : ℕ) → place < k →
    slice_get outs place ≡ Some (half, here) →
    number ≤ value → number ≤ here → (IsAtLeast number before → ⊥) →
    step_of dfa id.state half.label ≡ Some state →
    IsServed tree waits (node_id half.far state) number

module _ (dfa : DfaValue) (tree : TreeValue) (id : NodeId) (value : ℕ) (before : Option ℕ)
    (outs : List (HalfEdge × ℕ)) where
  pub served_one_more : (waits more : List Waiting) (k : ℕ) (out : Out) →
      AreServedUpTo dfa tree waits id value before outs k →
      ((each : Waiting) → Contains waits each → Contains more each) →
      slice_get outs k ≡ Some (out_entry out) →
      ((number state : ℕ) → number ≤ value → number ≤ out.value → (IsAtLeast number before → ⊥) →
      step_of dfa id.state out.label ≡ Some state →
      IsServed tree more (node_id out.to state) number) →
      AreServedUpTo dfa tree more id value before outs (k + 1)
  served_one_more waits more k out served kept is one place half here number state below there low
      lower new leads = ⊎_elim
      (λ (same : place ≡ k).
      let entry : out_entry out ≡ (half, here) =
      same_Some (out_entry out) (half, here) (sym is ∙ (ap (slice_get outs) (sym same) ∙ there))
      in
      subst (λ (each : HalfEdge × ℕ). IsServed tree more (node_id each.0.far state) number) entry
      (one number state low (subst (λ (each : HalfEdge × ℕ). number ≤ each.1) (sym entry) lower) new
      (ap (λ (each : HalfEdge × ℕ). step_of dfa id.state each.0.label) entry ∙ leads)))
      (λ (apart : place ≡ k → ⊥). served_more tree waits more (node_id half.far state) number kept
      (served place half here number state (omega (arith, apart)) there low lower new leads))
      (cases_eq place k)

  -- none of the edges is looked at yet
  pub none_served : (waits : List Waiting) → AreServedUpTo dfa tree waits id value before outs 0
  none_served waits place half here number state below there low lower new leads =
      absurd (omega (arith, below))

  -- edges whose value the node had before could give as much then already
  pub served_beyond : (waits : List Waiting) (k next : ℕ) →
      AreServedUpTo dfa tree waits id value before outs k →
      ((each : ℕ) (entry : HalfEdge × ℕ) → k ≤ each → each < next →
      slice_get outs each ≡ Some entry → IsAtLeast entry.1 before) →
      AreServedUpTo dfa tree waits id value before outs next
  served_beyond waits k next served beyond place half here number state below there low lower new
      leads = ⊎_elim
      (λ (early : place < k).
      served place half here number state early there low lower new leads)
      (λ (late : k ≤ place).
      absurd (new (weaker before here number (beyond place (half, here) late below there) lower)))
      (cases_lt place k)

module _ (store : Edges) (dfa : DfaValue) (id : NodeId) (value : ℕ)
    (gives : GivesOuts store id.vertex) where
  pub served_all : (tree : TreeValue) (waits : List Waiting) (before : Option ℕ) →
      AreServedUpTo dfa tree waits id value before (outs_of store id.vertex)
      (length (outs_of store id.vertex)) →
      IsServedFrom (value_of store) (step_of dfa) tree waits id value before
  served_all tree waits before served edge number state from below new reached leads =
      let there = bests.value_of (value_of store edge) number reached in
      let half = out_half edge in
      let same : leaving id.vertex half ≡ edge =
      λ i. record { from = sym from i; label = edge.label; to = edge.to } in
      let has : Contains (outs_of store id.vertex) (half, there.0) =
      (gives.exact half there.0).1 (ap (value_of store) same ∙ there.1) in
      let at = slice_get_read (outs_of store id.vertex) (length (outs_of store id.vertex)) has.0
      (half, there.0) refl has.1 (sym has.2) in
      served has.0 half there.0 number state has.1 at below there.2 new leads

  -- where no edge has a value above the one before, the node could give as much with that one
  pub served_before : (tree : TreeValue) (waits : List Waiting) (before : Option ℕ) (most : ℕ) →
      AreAtMost most (outs_of store id.vertex) → IsAtLeast most before →
      IsServedFrom (value_of store) (step_of dfa) tree waits id value before
  served_before tree waits before most bound kept edge number state from below new reached leads =
      let there = bests.value_of (value_of store edge) number reached in
      let half = out_half edge in
      let same : leaving id.vertex half ≡ edge =
      λ i. record { from = sym from i; label = edge.label; to = edge.to } in
      let has : Contains (outs_of store id.vertex) (half, there.0) =
      (gives.exact half there.0).1 (ap (value_of store) same ∙ there.1) in
      let low : there.0 ≤ most =
      All-contains (λ (entry : HalfEdge × ℕ). entry.1 ≤ most) (outs_of store id.vertex)
      (half, there.0) bound has in
      absurd (new (weaker before most number kept (omega (arith, there.2, low))))

  pub leaves_of_out : (k : ℕ) (out : Out) (waiting : Waiting) →
      slice_get (outs_of store id.vertex) k ≡ Some (out_entry out) →
      IsOut dfa id value out waiting →
      Leaves (value_of store) dfa id value waiting
  leaves_of_out k out waiting is out_is =
      let edge : EdgeId = leaving id.vertex (out_entry out).0 in
      let has : Contains (outs_of store id.vertex) (out_entry out) = (
        k,
        slice_get_within (outs_of store id.vertex) k (out_entry out) is,
        get_or_from_slice_get
            (outs_of store id.vertex) k (out_entry out) (out_entry out) is,
      ) in
      let there : value_of store edge ≡ Some out.value =
      (gives.exact (out_entry out).0 out.value).0 has in
      let same : waiting.edge ≡ edge = out_is.edge in
      record {
        lower = omega (arith, out_is.value_is);
        edge = subst (λ (e : EdgeId). IsAtLeast waiting.value (value_of store e)) (sym same)
            (at_least (value_of store edge) waiting.value out.value there
            (omega (arith, out_is.value_is)));
        source = λ i. record { vertex = (same i).from; state = out_is.before i };
        is_step = out_is.is_step;
      }
