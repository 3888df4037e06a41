-- A search in all trees at once: a place that was settled before, and the end.
use Rattle.std.proofs.Common.{◌≡◌, ℕ, ◌≤◌, ◌⊎◌, inl, inr, ⊎_elim, min, List, Option, Some, sym, ap, subst, ◌∙◌, arith, Contains}
use Rattle.std.proofs.lemmas.Option.{same_Some}
use Rattle.edge_store.specs.declared.edge.EdgeId.{EdgeId}
use Rattle.dfa_table.specs.DfaValue.{step_of}
use Rattle.delta_tree.specs.declared.node.NodeId.{NodeId}
use Rattle.delta_tree.specs.declared.node.Node.{Node}
use Rattle.delta_tree.specs.Nodes.{TreeValue, node_of, value_of, node_id, root_id}
use Rattle.delta_tree.specs.Changes.{Carries}
use Rattle.tree_insert.specs.Best.{IsAtLeast}
use Rattle.tree_insert.proofs.Bests.{weaker}
use Rattle.tree_insert.proofs.Bests as bests
use Rattle.place_table.specs.declared.gain.Gain.{Gain}
use Rattle.wide_search.specs.declared.batch.Batch.{Batch}
use Rattle.wide_search.specs.Batches.{target_of}
use Rattle.wide_search.specs.Shares.{Owns}
use Rattle.wide_search.specs.Widths.{IsClosed}
use Rattle.wide_search.specs.Searching.{Task, IsTask, IsOnTheWay, IsSearching, IsLifted, LiftsTrees, AddsLifted}
use Rattle.wide_search.proofs.Searching.{AreSame, place_cases, rises_reached}

-- ---- a batch for a place that was settled before

module _ (task : Task) (settled : NodeId → Option ℕ) (old new : ℕ → TreeValue)
    (batch : Batch) (waits : List Batch) (gains_of : Batch → List Gain)
    (searching : IsSearching task settled old waits gains_of) (waited : Contains waits batch)
    (wide : IsAtLeast batch.width (settled (target_of batch))) where
  -- each root of its gains has enough there
  pub enough_there : (gain : Gain) → Contains (gains_of batch) gain →
      IsAtLeast (min gain.cap batch.width) (value_of (old gain.root) (target_of batch))
  enough_there gain has =
      let first = (searching.open_ones batch waited).caps gain has in
      let width = bests.value_of (settled (target_of batch)) batch.width wide in
      let low : min gain.cap batch.width ≤ min first.0.cap width.0 =
      omega (arith, first.3, width.2) in
      subst (λ (root : ℕ). IsAtLeast (min gain.cap batch.width)
      (value_of (old root) (target_of batch))) first.2
      (weaker (value_of (old first.0.root) (target_of batch)) (min first.0.cap width.0)
      (min gain.cap batch.width)
      (searching.reached (target_of batch) width.0 width.1 first.0 first.1) low)

  pub again_same : LiftsTrees old new batch (gains_of batch) → AreSame old new
  again_same lifts = record {
    later = lifts.later;
    nodes = λ root id. ⊎_elim
        (λ (same : node_of (new root) id ≡ node_of (old root) id). same)
        (λ (up : (id ≡ target_of batch) × IsLifted (old root) (new root) batch
        (gains_of batch) root).
        absurd (up.1.3 (subst (λ (at : ℕ). IsAtLeast (min up.1.0.cap batch.width)
        (value_of (old at) (target_of batch))) up.1.2 (enough_there up.1.0 up.1.1))))
        (place_cases old new batch (gains_of batch) lifts root id);
  }

  pub again_none : (added : List Gain) → AddsLifted old new batch (gains_of batch) added →
      (more : Gain) → Contains added more → ⊥
  again_none added adds more has =
      let from = adds.only more has in
      from.2.lacks (enough_there from.0 from.1)

-- ---- the end

module _ (task : Task) (is : IsTask task) (settled : NodeId → Option ℕ) (trees : ℕ → TreeValue)
    (waits : List Batch) (gains_of : Batch → List Gain)
    (searching : IsSearching task settled trees waits gains_of)
    (none : (each : Batch) → Contains waits each → ⊥) where
  -- what is carried now was so before the search, or a first gain brought it there
  carried_cases : (root : ℕ) (id : NodeId) (number : ℕ) → Carries (trees root) id number →
      Carries (task.trees root) id number
      ⊎ ((first : Gain) × Contains task.first first × (first.root ≡ root) × (width : ℕ)
      × (settled id ≡ Some width) × (number ≤ min first.cap width))
  carried_cases root id number carries = ⊎_elim
      (λ (at : id ≡ root_id (trees root)).
      inl (inl (at ∙ ap (λ (vertex : ℕ). node_id vertex 0) (searching.rises root).root)))
      (λ (has : (node : Node) × (node_of (trees root) id ≡ Some node) × (number ≤ node.value)).
      ⊎_elim
      (λ (kept : node_of (trees root) id ≡ node_of (task.trees root) id).
      inl (inr (has.0, sym kept ∙ has.1, has.2)))
      (λ (lifted : (width : ℕ) × (settled id ≡ Some width) × (first : Gain) ×
      Contains task.first first × (first.root ≡ root) × (node : Node) ×
      (node_of (trees root) id ≡ Some node) × (node.value ≤ min first.cap width)).
      let same : has.0 ≡ lifted.5 = same_Some has.0 lifted.5 (sym has.1 ∙ lifted.6) in
      let low : number ≤ lifted.5.value =
      subst (λ (node : Node). number ≤ node.value) same has.2 in
      inr (lifted.2, lifted.3, lifted.4, lifted.0, lifted.1, omega (arith, low, lifted.7)))
      (searching.kept root id))
      carries

  -- what was closed before the search is so still
  closed_still : (root : ℕ) → Owns task.share root → (edge : EdgeId) (state number next : ℕ) →
      Carries (task.trees root) (node_id edge.from state) number →
      IsAtLeast number (task.widths state edge) →
      step_of task.dfa state edge.label ≡ Some next →
      IsAtLeast number (value_of (trees root) (node_id edge.to next))
  closed_still root owned edge state number next carries wide leads =
      rises_reached (task.trees root) (trees root) (node_id edge.to next) number
      (searching.rises root) (is.closed root owned edge state number next carries wide leads)

  -- each first gain is at a settled place
  first_there : (root : ℕ) (id : NodeId) (number : ℕ) (first : Gain) →
      Contains task.first first → first.root ≡ root → number ≤ first.cap →
      IsAtLeast number (settled id) → IsAtLeast number (value_of (trees root) id)
  first_there root id number first has same low there =
      let width = bests.value_of (settled id) number there in
      let least : number ≤ min first.cap width.0 = omega (arith, low, width.2) in
      subst (λ (at : ℕ). IsAtLeast number (value_of (trees at) id)) same
      (weaker (value_of (trees first.root) id) (min first.cap width.0) number
      (searching.reached id width.0 width.1 first has) least)

  settled_of_way : (id : NodeId) (number : ℕ) → IsOnTheWay settled waits id number →
      IsAtLeast number (settled id)
  settled_of_way id number way = ⊎_elim
      (λ (there : IsAtLeast number (settled id)). there)
      (λ (has : (each : Batch) × Contains waits each × (target_of each ≡ id) ×
      (number ≤ each.width)). absurd (none has.0 has.1))
      way

  -- an edge with the width that it had before the search can raise nothing
  pub closed_before : (root : ℕ) → Owns task.share root → (edge : EdgeId) (state number next : ℕ) →
      Carries (trees root) (node_id edge.from state) number →
      IsAtLeast number (task.widths state edge) →
      step_of task.dfa state edge.label ≡ Some next →
      IsAtLeast number (value_of (trees root) (node_id edge.to next))
  closed_before root owned edge state number next carries wide leads =
      let q = node_id edge.to next in
      ⊎_elim
      (λ (was : Carries (task.trees root) (node_id edge.from state) number).
      closed_still root owned edge state number next was wide leads)
      (λ (first : (first : Gain) × Contains task.first first × (first.root ≡ root) × (width : ℕ) ×
      (settled (node_id edge.from state) ≡ Some width) × (number ≤ min first.cap width)).
      let low : number ≤ first.3 = omega (arith, first.5) in
      let cap : number ≤ first.0.cap = omega (arith, first.5) in
      ⊎_elim
      (λ (way : IsOnTheWay settled waits (node_id edge.to next) number).
      first_there root (node_id edge.to next) number first.0 first.1 first.2 cap
      (settled_of_way (node_id edge.to next) number way))
      (λ (had : (each : Gain) → Contains task.first each →
      IsAtLeast (min each.cap number)
      (value_of (task.trees each.root) (node_id edge.to next))).
      let least : number ≤ min first.0.cap number = omega (arith, cap) in
      rises_reached (task.trees root) (trees root) (node_id edge.to next) number
      (searching.rises root)
      (subst (λ (at : ℕ). IsAtLeast number (value_of (task.trees at) (node_id edge.to next)))
      first.2
      (weaker (value_of (task.trees first.0.root) (node_id edge.to next))
      (min first.0.cap number) number (had first.0 first.1) least)))
      (searching.followed edge state first.3 number next first.4 low wide leads))
      (carried_cases root (node_id edge.from state) number carries)

  module _ (edge : EdgeId) (state : ℕ)
      (goal : (next : ℕ) → step_of task.dfa state edge.label ≡ Some next →
      task.goal ≡ node_id edge.to next)
      (firsts : (root number : ℕ) → Owns task.share root →
      Carries (task.trees root) (node_id edge.from state) number → number ≤ task.most →
      IsAtLeast number (task.widths state edge)
      ⊎ ((first : Gain) × Contains task.first first × (first.root ≡ root)
      × (number ≤ first.cap))) where
    -- nor can the edge that was raised, at the state that was searched
    pub closed_there : (root number next : ℕ) → Owns task.share root →
        Carries (trees root) (node_id edge.from state) number → number ≤ task.most →
        step_of task.dfa state edge.label ≡ Some next →
        IsAtLeast number (value_of (trees root) (node_id edge.to next))
    closed_there root number next owned carries below leads =
        let there : IsAtLeast number (settled (node_id edge.to next)) =
        weaker (settled (node_id edge.to next)) task.most number
        (settled_of_way (node_id edge.to next) task.most
        (subst (λ (id : NodeId). IsOnTheWay settled waits id task.most) (goal next leads)
        searching.begun)) below in
        ⊎_elim
        (λ (was : Carries (task.trees root) (node_id edge.from state) number). ⊎_elim
        (λ (wide : IsAtLeast number (task.widths state edge)).
        closed_still root owned edge state number next was wide leads)
        (λ (first : (first : Gain) × Contains task.first first × (first.root ≡ root) ×
        (number ≤ first.cap)).
        first_there root (node_id edge.to next) number first.0 first.1 first.2 first.3 there)
        (firsts root number owned was below))
        (λ (first : (first : Gain) × Contains task.first first × (first.root ≡ root) ×
        (width : ℕ) × (settled (node_id edge.from state) ≡ Some width) ×
        (number ≤ min first.cap width)).
        let cap : number ≤ first.0.cap = omega (arith, first.5) in
        first_there root (node_id edge.to next) number first.0 first.1 first.2 cap there)
        (carried_cases root (node_id edge.from state) number carries)

    pub closed_after : (widths : ℕ → EdgeId → Option ℕ) →
        ((at number : ℕ) (each : EdgeId) → IsAtLeast number (widths at each) →
        IsAtLeast number (task.widths at each)
        ⊎ ((each ≡ edge) × (at ≡ state) × (number ≤ task.most))) →
        (root : ℕ) → Owns task.share root → IsClosed widths (step_of task.dfa) (trees root)
    closed_after widths grows root owned each at number next carries wide leads = ⊎_elim
        (λ (old : IsAtLeast number (task.widths at each)).
        closed_before root owned each at number next carries old leads)
        (λ (raised : (each ≡ edge) × (at ≡ state) × (number ≤ task.most)).
        subst (λ (e : EdgeId). IsAtLeast number (value_of (trees root) (node_id e.to next)))
        (sym raised.0)
        (closed_there root number next owned
        (subst (λ (s : ℕ). Carries (trees root) (node_id edge.from s) number) raised.1
        (subst (λ (e : EdgeId). Carries (trees root) (node_id e.from at) number) raised.0
        carries)) raised.2
        (subst (λ (s : ℕ). step_of task.dfa s edge.label ≡ Some next) raised.1
        (subst (λ (e : EdgeId). step_of task.dfa at e.label ≡ Some next) raised.0 leads))))
        (grows at number each wide)
