-- A search in all trees at once: what one batch does, and what holds at the end.
use Rattle.std.proofs.Common.{◌≡◌, ◌≢◌, ℕ, ◌≤◌, ◌<◌, ◌⊎◌, inl, inr, ⊎_elim, Bool, true, false, cond, min, List, Option, Some, None, refl, sym, ap, subst, ◌∙◌, arith, Contains}
use Rattle.std.specs.Prelude.{option_map}
use Rattle.std.proofs.lemmas.Bool.{cases_lt, true≢false}
use Rattle.std.proofs.lemmas.Option.{same_Some, none-some}
use Rattle.edge_store.specs.declared.edge.EdgeId.{EdgeId}
use Rattle.dfa_table.specs.DfaValue.{step_of}
use Rattle.delta_tree.specs.declared.node.NodeId.{NodeId}
use Rattle.delta_tree.specs.declared.node.Node.{Node}
use Rattle.delta_tree.specs.Nodes.{TreeValue, node_of, value_of, node_id, root_id, same_node}
use Rattle.delta_tree.specs.Changes.{Carries}
use Rattle.delta_tree.proofs.Ids.{same_node_is, same_node_laws}
use Rattle.tree_insert.specs.Best.{IsAtLeast}
use Rattle.tree_insert.specs.UnderWay.{IsSupported, AreSupported, Rises}
use Rattle.tree_insert.proofs.Bests.{weaker, at_least, below_some}
use Rattle.tree_insert.proofs.Bests as bests
use Rattle.tree_insert.proofs.Nodes.{value_reached, node_reached}
use Rattle.place_table.specs.declared.gain.Gain.{Gain}
use Rattle.wide_search.specs.declared.batch.Batch.{Batch}
use Rattle.wide_search.specs.Batches.{source_of, target_of}
use Rattle.wide_search.specs.Searching.{Task, IsTask, IsOpen, IsOnTheWay, IsKeptOrLifted, IsSearching, IsLifted, lifted_node, AreLater, LiftsTrees, IsLiftOf, AddsLifted, IsOut, Follows}

-- ---- places

pub node_cases : (first second : NodeId) → (first ≡ second) ⊎ (first ≢ second)
node_cases first second = by (same_node first second) refl
  where
    by : (b : Bool) → same_node first second ≡ b → (first ≡ second) ⊎ (first ≢ second)
    by true is = inl (same_node_is first second is)
    by false is =
        inr (λ same. true≢false
        (sym (ap (λ (id : NodeId). same_node first id) (sym same) ∙ same_node_laws.refl first) ∙ is))

-- one place more is settled
abbrev pub settle_at : (NodeId → Option ℕ) → NodeId → ℕ → NodeId → Option ℕ
settle_at settled id width each = cond (same_node id each) (Some width) (settled each)

module _ (settled : NodeId → Option ℕ) (id : NodeId) (width : ℕ) where
  pub settled_here : settle_at settled id width id ≡ Some width
  settled_here =
      ap (λ (b : Bool). cond b (Some width) (settled id)) (same_node_laws.refl id)

  pub settled_cases : (each : NodeId) →
      (id ≡ each) ⊎ (settle_at settled id width each ≡ settled each)
  settled_cases each = by (same_node id each) refl
    where
      by : (b : Bool) → same_node id each ≡ b →
          (id ≡ each) ⊎ (settle_at settled id width each ≡ settled each)
      by true is = inl (same_node_is id each is)
      by false is = inr (ap (λ (b : Bool). cond b (Some width) (settled each)) is)

  pub settled_still : settled id ≡ None → (each : NodeId) (other : ℕ) →
      settled each ≡ Some other → settle_at settled id width each ≡ Some other
  settled_still none each other is = ⊎_elim
      (λ (same : id ≡ each). absurd (none-some other (sym none ∙ (ap settled same ∙ is))))
      (λ (kept : settle_at settled id width each ≡ settled each). kept ∙ is)
      (settled_cases each)

-- ---- values

pub carries_reached : (tree : TreeValue) (id : NodeId) (number : ℕ) →
    IsAtLeast number (value_of tree id) → Carries tree id number
carries_reached tree id number reached =
    let has = node_reached tree id number reached in inr (has.0, has.1, has.2)

pub same_value : (first second : TreeValue) (id : NodeId) → node_of first id ≡ node_of second id →
    value_of first id ≡ value_of second id
same_value first second id same = ap (option_map (λ (each : Node). each.value)) same

pub rises_itself : (tree : TreeValue) → Rises tree tree
rises_itself tree = record {
  root = refl;
  puts = omega arith;
  nodes = λ id node is. inl is;
  risen = λ id before is. (before, is, omega arith);
}

pub rises_reached : (first tree : TreeValue) (id : NodeId) (number : ℕ) → Rises first tree →
    IsAtLeast number (value_of first id) → IsAtLeast number (value_of tree id)
rises_reached first tree id number rises reached =
    let before = node_reached first id number reached in
    let after = rises.risen id before.0 before.1 in
    value_reached tree id after.0 number after.1 (omega (arith, before.2, after.2))

-- ---- what a batch changes in the trees

module _ (old new : ℕ → TreeValue) (batch : Batch) (gains : List Gain)
    (lifts : LiftsTrees old new batch gains) where
  pub place_cases : (root : ℕ) (id : NodeId) →
      (node_of (new root) id ≡ node_of (old root) id)
      ⊎ ((id ≡ target_of batch) × IsLifted (old root) (new root) batch gains root)
  place_cases root id = ⊎_elim
      (λ (same : id ≡ target_of batch). ⊎_elim
      (λ (kept : node_of (new root) (target_of batch) ≡ node_of (old root) (target_of batch)).
      inl (ap (node_of (new root)) same ∙ (kept ∙ ap (node_of (old root)) (sym same))))
      (λ (lifted : IsLifted (old root) (new root) batch gains root). inr (same, lifted))
      (lifts.here root))
      (λ (apart : id ≢ target_of batch). inl (lifts.elsewhere root id apart))
      (node_cases id (target_of batch))

  lifted_above : (root : ℕ) (lifted : IsLifted (old root) (new root) batch gains root)
      (before : Node) → node_of (old root) (target_of batch) ≡ Some before →
      before.value < min lifted.0.cap batch.width
  lifted_above root lifted before is = ⊎_elim
      (λ (less : before.value < min lifted.0.cap batch.width). less)
      (λ (high : min lifted.0.cap batch.width ≤ before.value). absurd (lifted.3
      (value_reached (old root) (target_of batch) before (min lifted.0.cap batch.width) is high)))
      (cases_lt before.value (min lifted.0.cap batch.width))

  -- the node at a place that was lifted
  lifted_is : (root : ℕ) (id : NodeId) (each : Node) (same : id ≡ target_of batch)
      (lifted : IsLifted (old root) (new root) batch gains root) →
      node_of (new root) id ≡ Some each → lifted_node batch lifted.0 lifted.4 ≡ each
  lifted_is root id each same lifted is =
      same_Some (lifted_node batch lifted.0 lifted.4) each
      (sym lifted.6 ∙ (ap (node_of (new root)) (sym same) ∙ is))

  risen_here : (root : ℕ) (id : NodeId) (before : Node) → node_of (old root) id ≡ Some before →
      (after : Node) × (node_of (new root) id ≡ Some after) × (before.value ≤ after.value)
  risen_here root id before is = ⊎_elim
      (λ (kept : node_of (new root) id ≡ node_of (old root) id). (before, kept ∙ is, omega arith))
      (λ (up : (id ≡ target_of batch) × IsLifted (old root) (new root) batch gains root).
      let less = lifted_above root up.1 before (ap (node_of (old root)) (sym up.0) ∙ is) in (
        lifted_node batch up.1.0 up.1.4,
        ap (node_of (new root)) up.0 ∙ up.1.6,
        omega (arith, less),
      ))
      (place_cases root id)

  pub rises_on : (first : TreeValue) (root : ℕ) → Rises first (old root) → Rises first (new root)
  rises_on first root rises = record {
    root = lifts.later.roots root ∙ rises.root;
    puts = omega (arith, rises.puts, lifts.later.puts root);
    nodes = λ id each is. ⊎_elim
        (λ (kept : node_of (new root) id ≡ node_of (old root) id).
        rises.nodes id each (sym kept ∙ is))
        (λ (up : (id ≡ target_of batch) × IsLifted (old root) (new root) batch gains root).
        let same = lifted_is root id each up.0 up.1 is in inr (
          (λ before was.
              let now = rises.risen id before was in
              let less =
              lifted_above root up.1 now.0 (ap (node_of (old root)) (sym up.0) ∙ now.1) in
              subst (λ (x : Node). before.value < x.value) same (omega (arith, now.2, less))),
          subst (λ (x : Node). first.puts ≤ x.stamp) same (omega (arith, rises.puts, up.1.5)),
        ))
        (place_cases root id);
    risen = λ id before was.
        let now = rises.risen id before was in
        let after = risen_here root id now.0 now.1 in
        (after.0, after.1, omega (arith, now.2, after.2));
  }

  pub supported_on : (values : EdgeId → Option ℕ) (step : ℕ → ℕ → Option ℕ) (root : ℕ) →
      IsAtLeast batch.width (values batch.edge) →
      step batch.before batch.edge.label ≡ Some batch.state →
      AreSupported values step (old root) → AreSupported values step (new root)
  supported_on values step root edge leads supported id each is = ⊎_elim
      (λ (kept : node_of (new root) id ≡ node_of (old root) id). supported id each (sym kept ∙ is))
      (λ (up : (id ≡ target_of batch) × IsLifted (old root) (new root) batch gains root).
      let here : IsSupported values step (target_of batch) (lifted_node batch up.1.0 up.1.4) =
      record {
        edge = weaker (values batch.edge) batch.width (min up.1.0.cap batch.width) edge
            (omega arith);
        leads = leads;
      } in
      subst (λ (x : Node). IsSupported values step id x) (lifted_is root id each up.0 up.1 is)
      (subst (λ (at : NodeId). IsSupported values step at (lifted_node batch up.1.0 up.1.4))
      (sym up.0) here))
      (place_cases root id)

  pub reached_on : (root : ℕ) (id : NodeId) (number : ℕ) →
      IsAtLeast number (value_of (old root) id) → IsAtLeast number (value_of (new root) id)
  reached_on root id number reached =
      let before = node_reached (old root) id number reached in
      let after = risen_here root id before.0 before.1 in
      value_reached (new root) id after.0 number after.1 (omega (arith, before.2, after.2))

  pub carries_on : (root : ℕ) (id : NodeId) (number : ℕ) →
      Carries (old root) id number → Carries (new root) id number
  carries_on root id number carries = ⊎_elim
      (λ (at : id ≡ root_id (old root)).
      inl (at ∙ ap (λ (vertex : ℕ). node_id vertex 0) (sym (lifts.later.roots root))))
      (λ (has : (node : Node) × (node_of (old root) id ≡ Some node) × (number ≤ node.value)).
      let after = risen_here root id has.0 has.1 in
      inr (after.0, after.1, omega (arith, has.2, after.2)))
      carries

-- ---- the search begins

module _ (task : Task) (batch : Batch) (gains_of : Batch → List Gain) where
  pub searching_begins : (root_supported : (root : ℕ) →
      AreSupported task.values (step_of task.dfa) (task.trees root)) →
      (waits : List Batch) →
      ((each : Batch) → Contains waits each → IsOpen task task.trees each (gains_of each)) →
      Contains waits batch → target_of batch ≡ task.goal → task.most ≤ batch.width →
      IsSearching task (λ id. None) task.trees waits gains_of
  searching_begins supported waits opens has at most = record {
    rises = λ root. rises_itself (task.trees root);
    supported = supported;
    open_ones = opens;
    reached = λ id width none first there. absurd (none-some width none);
    kept = λ root id. inl refl;
    begun = inr (batch, has, at, most);
    followed = λ edge state width number next none low reached leads. absurd (none-some width none);
  }

-- ---- one batch at a place that isn't settled

module _ (task : Task) (is : IsTask task) (settled : NodeId → Option ℕ) (old new : ℕ → TreeValue)
    (batch : Batch) (waits news : List Batch) (gains_of gains_of' : Batch → List Gain)
    (added : List Gain) (searching : IsSearching task settled old waits gains_of)
    (waited : Contains waits batch) (lifts : LiftsTrees old new batch (gains_of batch))
    (adds : AddsLifted old new batch (gains_of batch) added)
    (follows : Follows task batch added waits news gains_of gains_of') where
  to : NodeId
  to = target_of batch

  -- what an edge could give before the search was there
  closed_from : (first : Gain) → Contains task.first first →
      (edge : EdgeId) (state number next : ℕ) →
      IsAtLeast number (value_of (task.trees first.root) (node_id edge.from state)) →
      IsAtLeast number (task.widths state edge) →
      step_of task.dfa state edge.label ≡ Some next →
      IsAtLeast number (value_of (task.trees first.root) (node_id edge.to next))
  closed_from first has edge state number next reached wide leads =
      is.closed first.root (is.owned first has) edge state number next
      (carries_reached (task.trees first.root) (node_id edge.from state) number reached) wide leads

  -- what waits after it
  opens_on : ((first : Gain) → Contains task.first first →
      IsAtLeast (min first.cap batch.width) (value_of (task.trees first.root) (target_of batch))
      ⊎ ((more : Gain) × Contains added more × (more.root ≡ first.root)
      × (min first.cap batch.width ≤ more.cap)
      × (more.before ≡ value_of (task.trees first.root) (target_of batch)))) →
      (each : Batch) → Contains news each → IsOpen task new each (gains_of' each)
  opens_on had each there = ⊎_elim
      (λ (was : Contains waits each × (gains_of' each ≡ gains_of each)).
      let before = searching.open_ones each was.0 in
      subst (IsOpen task new each) (sym was.1) (record {
        edge = before.edge;
        leads = before.leads;
        carries = λ gain has.
            carries_on old new batch (gains_of batch) lifts gain.root (source_of each)
            (min gain.cap each.width) (before.carries gain has);
        once = before.once;
        caps = before.caps;
        covers = before.covers;
      }))
      (λ (out : IsOut task batch each × (gains_of' each ≡ added) ×
      ((more : Gain) × Contains added more)).
      subst (IsOpen task new each) (sym out.1) (record {
        edge = is.within each.before each.width each.edge out.0.edge;
        leads = out.0.leads;
        carries = λ gain has.
            let from = adds.only gain has in
            subst (λ (id : NodeId). Carries (new gain.root) id (min gain.cap each.width))
            (sym out.0.source)
            (carries_reached (new gain.root) (target_of batch) (min gain.cap each.width)
            (weaker (value_of (new gain.root) (target_of batch)) gain.cap (min gain.cap each.width)
            from.3 (omega arith)));
        once = adds.once;
        caps = λ gain has.
            let from = adds.only gain has in
            let first = (searching.open_ones batch waited).caps from.0 from.1 in
            (first.0, first.1, first.2 ∙ sym from.2.root, omega (arith, first.3, from.2.cap));
        covers = λ first has. ⊎_elim
            (λ (enough : IsAtLeast (min first.cap batch.width)
            (value_of (task.trees first.root) (target_of batch))).
            let low : min first.cap each.width ≤ min first.cap batch.width =
            omega (arith, out.0.lower) in
            let wide : min first.cap each.width ≤ each.width = omega arith in
            inl (closed_from first has each.edge each.before (min first.cap each.width) each.state
            (subst (λ (id : NodeId). IsAtLeast (min first.cap each.width)
            (value_of (task.trees first.root) id)) (sym out.0.source)
            (weaker (value_of (task.trees first.root) (target_of batch))
            (min first.cap batch.width) (min first.cap each.width) enough low))
            (weaker (task.widths each.before each.edge) each.width (min first.cap each.width)
            out.0.edge wide)
            out.0.leads))
            (λ (more : (more : Gain) × Contains added more × (more.root ≡ first.root) ×
            (min first.cap batch.width ≤ more.cap) ×
            (more.before ≡ value_of (task.trees first.root) (target_of batch))).
            inr (more.0, more.1, more.2, omega (arith, more.3, out.0.lower)))
            (had first has);
      }))
      (follows.only each there)

  module _ (none : settled (target_of batch) ≡ None) where
    unsettled_same : (root : ℕ) →
        value_of (old root) (target_of batch) ≡ value_of (task.trees root) (target_of batch)
    unsettled_same root = ⊎_elim
        (λ (same : node_of (old root) (target_of batch)
        ≡ node_of (task.trees root) (target_of batch)).
        same_value (old root) (task.trees root) (target_of batch) same)
        (λ (lifted : (width : ℕ) × (settled (target_of batch) ≡ Some width) × (first : Gain) ×
        Contains task.first first × (first.root ≡ root) × (node : Node) ×
        (node_of (old root) (target_of batch) ≡ Some node) × (node.value ≤ min first.cap width)).
        absurd (none-some lifted.0 (sym none ∙ lifted.1)))
        (searching.kept root (target_of batch))

    had_or_lifted : (first : Gain) → Contains task.first first →
        IsAtLeast (min first.cap batch.width) (value_of (task.trees first.root) (target_of batch))
        ⊎ ((more : Gain) × Contains added more × (more.root ≡ first.root)
        × (min first.cap batch.width ≤ more.cap)
        × (more.before ≡ value_of (task.trees first.root) (target_of batch)))
    had_or_lifted first there = ⊎_elim
        (λ (had : IsAtLeast (min first.cap batch.width)
        (value_of (task.trees first.root) (target_of batch))). inl had)
        (λ (has : (gain : Gain) × Contains (gains_of batch) gain × (gain.root ≡ first.root) ×
        (min first.cap batch.width ≤ gain.cap)). ⊎_elim
        (λ (enough : IsAtLeast (min has.0.cap batch.width)
        (value_of (old has.0.root) (target_of batch))).
        let low : min first.cap batch.width ≤ min has.0.cap batch.width = omega (arith, has.3) in
        inl (weaker (value_of (task.trees first.root) (target_of batch)) (min has.0.cap batch.width)
        (min first.cap batch.width)
        (subst (λ (root : ℕ). IsAtLeast (min has.0.cap batch.width)
        (value_of (task.trees root) (target_of batch))) has.2
        (subst (IsAtLeast (min has.0.cap batch.width)) (unsettled_same has.0.root) enough)) low))
        (λ (more : (more : Gain) × Contains added more × IsLiftOf old batch has.0 more).
        inr (
          more.0,
          more.1,
          more.2.root ∙ has.2,
          omega (arith, more.2.cap, has.3),
          more.2.before ∙ (unsettled_same has.0.root
              ∙ ap (λ (root : ℕ). value_of (task.trees root) (target_of batch)) has.2),
        ))
        (adds.all has.0 has.1))
        ((searching.open_ones batch waited).covers first there)

    abbrev after : NodeId → Option ℕ
    after = settle_at settled (target_of batch) batch.width

    still : (id : NodeId) (width : ℕ) → settled id ≡ Some width → after id ≡ Some width
    still id width there =
        settled_still settled (target_of batch) batch.width none id width there

    -- what was on its way is so still
    on_the_way : (id : NodeId) (number : ℕ) → IsOnTheWay settled waits id number →
        IsOnTheWay after news id number
    on_the_way id number way = ⊎_elim
        (λ (there : IsAtLeast number (settled id)).
        let width = bests.value_of (settled id) number there in
        inl (at_least (after id) number width.0 (still id width.0 width.1) width.2))
        (λ (has : (each : Batch) × Contains waits each × (target_of each ≡ id) ×
        (number ≤ each.width)). ⊎_elim
        (λ (it : batch ≡ has.0).
        let same : target_of batch ≡ id = ap target_of it ∙ has.2 in
        let low : number ≤ batch.width =
        subst (λ (each : Batch). number ≤ each.width) (sym it) has.3 in
        inl (subst (λ (at : NodeId). IsAtLeast number (after at)) same
        (at_least (after (target_of batch)) number batch.width
        (settled_here settled (target_of batch) batch.width) low)))
        (λ (other : Contains news has.0). inr (has.0, other, has.2, has.3))
        (follows.rest has.0 has.1))
        way

    -- what leaves the target is offered
    offered_on : (edge : EdgeId) (state number next : ℕ) →
        target_of batch ≡ node_id edge.from state → number ≤ batch.width →
        IsAtLeast number (task.widths state edge) →
        step_of task.dfa state edge.label ≡ Some next →
        IsOnTheWay after news (node_id edge.to next) number
        ⊎ ((first : Gain) → Contains task.first first →
        IsAtLeast (min first.cap number) (value_of (task.trees first.root) (node_id edge.to next)))
    offered_on edge state number next same low wide leads =
        let from : batch.edge.to ≡ edge.from = ap (λ (id : NodeId). id.vertex) same in
        let at : batch.state ≡ state = ap (λ (id : NodeId). id.state) same in
        ⊎_elim
        (λ (other : (other : Batch) × Contains news other ×
        (target_of other ≡ node_id edge.to next) × (number ≤ other.width)). inl (inr other))
        (λ (all : (more : Gain) → Contains added more → IsAtLeast number more.before).
        inr (λ first there. ⊎_elim
        (λ (had : IsAtLeast (min first.cap batch.width)
        (value_of (task.trees first.root) (target_of batch))).
        let least : min first.cap number ≤ min first.cap batch.width = omega (arith, low) in
        let lower : min first.cap number ≤ number = omega arith in
        closed_from first there edge state (min first.cap number) next
        (subst (λ (id : NodeId). IsAtLeast (min first.cap number)
        (value_of (task.trees first.root) id)) same
        (weaker (value_of (task.trees first.root) (target_of batch)) (min first.cap batch.width)
        (min first.cap number) had least))
        (weaker (task.widths state edge) number (min first.cap number) wide lower) leads)
        (λ (more : (more : Gain) × Contains added more × (more.root ≡ first.root) ×
        (min first.cap batch.width ≤ more.cap) ×
        (more.before ≡ value_of (task.trees first.root) (target_of batch))).
        let lower : min first.cap number ≤ number = omega arith in
        weaker (value_of (task.trees first.root) (node_id edge.to next)) number
        (min first.cap number)
        (closed_from first there edge state number next
        (subst (λ (id : NodeId). IsAtLeast number (value_of (task.trees first.root) id)) same
        (subst (IsAtLeast number) more.4 (all more.0 more.1))) wide leads) lower)
        (had_or_lifted first there)))
        (follows.offered edge number next (sym from) low
        (subst (λ (s : ℕ). IsAtLeast number (task.widths s edge)) (sym at) wide)
        (ap (λ (s : ℕ). step_of task.dfa s edge.label) at ∙ leads))

    pub searching_more : IsSearching task after new news gains_of'
    searching_more = record {
      rises = λ root.
          rises_on old new batch (gains_of batch) lifts (task.trees root) root
          (searching.rises root);
      supported = λ root.
          supported_on old new batch (gains_of batch) lifts task.values (step_of task.dfa) root
          (searching.open_ones batch waited).edge (searching.open_ones batch waited).leads
          (searching.supported root);
      open_ones = opens_on had_or_lifted;
      reached = λ id width there first has. ⊎_elim
          (λ (same : target_of batch ≡ id).
          let here : batch.width ≡ width =
          same_Some batch.width width
          (sym (settled_here settled (target_of batch) batch.width) ∙ (ap after same ∙ there)) in
          subst (λ (w : ℕ). IsAtLeast (min first.cap w) (value_of (new first.root) id)) here
          (subst (λ (at : NodeId). IsAtLeast (min first.cap batch.width)
          (value_of (new first.root) at)) same (reached_here first has)))
          (λ (kept : after id ≡ settled id).
          reached_on old new batch (gains_of batch) lifts first.root id (min first.cap width)
          (searching.reached id width (sym kept ∙ there) first has))
          (settled_cases settled (target_of batch) batch.width id);
      kept = λ root id. kept_on root id;
      begun = on_the_way task.goal task.most searching.begun;
      followed = λ edge state width number next there low wide leads. ⊎_elim
          (λ (same : target_of batch ≡ node_id edge.from state).
          let here : batch.width ≡ width =
          same_Some batch.width width
          (sym (settled_here settled (target_of batch) batch.width) ∙ (ap after same ∙ there)) in
          offered_on edge state number next same (omega (arith, here, low)) wide leads)
          (λ (kept : after (node_id edge.from state) ≡ settled (node_id edge.from state)). ⊎_elim
          (λ (way : IsOnTheWay settled waits (node_id edge.to next) number).
          inl (on_the_way (node_id edge.to next) number way))
          (λ (had : (first : Gain) → Contains task.first first →
          IsAtLeast (min first.cap number)
          (value_of (task.trees first.root) (node_id edge.to next))). inr had)
          (searching.followed edge state width number next (sym kept ∙ there) low wide leads))
          (settled_cases settled (target_of batch) batch.width (node_id edge.from state));
    }
      where
        reached_here : (first : Gain) → Contains task.first first →
            IsAtLeast (min first.cap batch.width) (value_of (new first.root) (target_of batch))
        reached_here first has = ⊎_elim
            (λ (had : IsAtLeast (min first.cap batch.width)
            (value_of (task.trees first.root) (target_of batch))).
            reached_on old new batch (gains_of batch) lifts first.root (target_of batch)
            (min first.cap batch.width)
            (subst (IsAtLeast (min first.cap batch.width)) (sym (unsettled_same first.root)) had))
            (λ (more : (more : Gain) × Contains added more × (more.root ≡ first.root) ×
            (min first.cap batch.width ≤ more.cap) ×
            (more.before ≡ value_of (task.trees first.root) (target_of batch))).
            subst (λ (root : ℕ). IsAtLeast (min first.cap batch.width)
            (value_of (new root) (target_of batch))) more.2
            (weaker (value_of (new more.0.root) (target_of batch)) more.0.cap
            (min first.cap batch.width) (adds.only more.0 more.1).3 more.3))
            (had_or_lifted first has)

        kept_on : (root : ℕ) (id : NodeId) → IsKeptOrLifted task after new root id
        kept_on root id = ⊎_elim
            (λ (same : node_of (new root) id ≡ node_of (old root) id). ⊎_elim
            (λ (kept : node_of (old root) id ≡ node_of (task.trees root) id). inl (same ∙ kept))
            (λ (lifted : (width : ℕ) × (settled id ≡ Some width) × (first : Gain) ×
            Contains task.first first × (first.root ≡ root) × (node : Node) ×
            (node_of (old root) id ≡ Some node) × (node.value ≤ min first.cap width)).
            inr (
              lifted.0,
              still id lifted.0 lifted.1,
              lifted.2,
              lifted.3,
              lifted.4,
              lifted.5,
              same ∙ lifted.6,
              lifted.7,
            ))
            (searching.kept root id))
            (λ (up : (id ≡ target_of batch) × IsLifted (old root) (new root) batch
            (gains_of batch) root).
            let first = (searching.open_ones batch waited).caps up.1.0 up.1.1 in
            inr (
              batch.width,
              ap after up.0 ∙ settled_here settled (target_of batch) batch.width,
              first.0,
              first.1,
              first.2 ∙ up.1.2,
              lifted_node batch up.1.0 up.1.4,
              ap (node_of (new root)) up.0 ∙ up.1.6,
              omega (arith, first.3),
            ))
            (place_cases old new batch (gains_of batch) lifts root id)

-- ---- one batch at a place that is settled

-- the trees have the same nodes
pub record AreSame (old new : ℕ → TreeValue) : Type 0 where
  pub later : AreLater old new
  pub nodes : (root : ℕ) (id : NodeId) → node_of (new root) id ≡ node_of (old root) id

pub same_itself : (trees : ℕ → TreeValue) → AreSame trees trees
same_itself trees = record {
  later = record { roots = λ root. refl; puts = λ root. omega arith };
  nodes = λ root id. refl;
}

module _ (task : Task) (settled : NodeId → Option ℕ) (old new : ℕ → TreeValue)
    (batch : Batch) (waits news : List Batch) (gains_of gains_of' : Batch → List Gain)
    (searching : IsSearching task settled old waits gains_of) where
  -- a batch for a place that has at least its width falls away
  pub searching_same : AreSame old new → IsAtLeast batch.width (settled (target_of batch)) →
      ((each : Batch) → Contains waits each → (batch ≡ each) ⊎ Contains news each) →
      ((each : Batch) → Contains news each →
      Contains waits each × (gains_of' each ≡ gains_of each)) →
      IsSearching task settled new news gains_of'
  searching_same same wide rest only = record {
    rises = λ root.
        let rises = searching.rises root in
        record {
          root = same.later.roots root ∙ rises.root;
          puts = omega (arith, rises.puts, same.later.puts root);
          nodes = λ id node is. rises.nodes id node (sym (same.nodes root id) ∙ is);
          risen = λ id before was.
              let now = rises.risen id before was in
              (now.0, same.nodes root id ∙ now.1, now.2);
        };
    supported = λ root id node is. searching.supported root id node (sym (same.nodes root id) ∙ is);
    open_ones = λ each there.
        let was = only each there in
        let before = searching.open_ones each was.0 in
        subst (IsOpen task new each) (sym was.1) (record {
          edge = before.edge;
          leads = before.leads;
          carries = λ gain has. ⊎_elim
              (λ (at : source_of each ≡ root_id (old gain.root)).
              inl (at ∙ ap (λ (vertex : ℕ). node_id vertex 0)
              (sym (same.later.roots gain.root))))
              (λ (node : (node : Node) × (node_of (old gain.root) (source_of each) ≡ Some node) ×
              (min gain.cap each.width ≤ node.value)).
              inr (node.0, same.nodes gain.root (source_of each) ∙ node.1, node.2))
              (before.carries gain has);
          once = before.once;
          caps = before.caps;
          covers = before.covers;
        });
    reached = λ id width there first has.
        subst (IsAtLeast (min first.cap width))
        (sym (same_value (new first.root) (old first.root) id (same.nodes first.root id)))
        (searching.reached id width there first has);
    kept = λ root id. ⊎_elim
        (λ (kept : node_of (old root) id ≡ node_of (task.trees root) id).
        inl (same.nodes root id ∙ kept))
        (λ (lifted : (width : ℕ) × (settled id ≡ Some width) × (first : Gain) ×
        Contains task.first first × (first.root ≡ root) × (node : Node) ×
        (node_of (old root) id ≡ Some node) × (node.value ≤ min first.cap width)).
        inr (
          lifted.0,
          lifted.1,
          lifted.2,
          lifted.3,
          lifted.4,
          lifted.5,
          same.nodes root id ∙ lifted.6,
          lifted.7,
        ))
        (searching.kept root id);
    begun = still_on_the_way task.goal task.most searching.begun;
    followed = λ edge state width number next there low reached leads. ⊎_elim
        (λ (way : IsOnTheWay settled waits (node_id edge.to next) number).
        inl (still_on_the_way (node_id edge.to next) number way))
        (λ (had : (first : Gain) → Contains task.first first →
        IsAtLeast (min first.cap number)
        (value_of (task.trees first.root) (node_id edge.to next))). inr had)
        (searching.followed edge state width number next there low reached leads);
  }
    where
      still_on_the_way : (id : NodeId) (number : ℕ) → IsOnTheWay settled waits id number →
          IsOnTheWay settled news id number
      still_on_the_way id number way = ⊎_elim
          (λ (there : IsAtLeast number (settled id)). inl there)
          (λ (has : (each : Batch) × Contains waits each × (target_of each ≡ id) ×
          (number ≤ each.width)). ⊎_elim
          (λ (it : batch ≡ has.0).
          let low : number ≤ batch.width =
          subst (λ (each : Batch). number ≤ each.width) (sym it) has.3 in
          inl (subst (λ (at : NodeId). IsAtLeast number (settled at)) (ap target_of it ∙ has.2)
          (weaker (settled (target_of batch)) batch.width number wide low)))
          (λ (other : Contains news has.0). inr (has.0, other, has.2, has.3))
          (rest has.0 has.1))
          way

-- ---- the same batches

-- a search says the same of other lists of the same batches
pub searching_alike : (task : Task) (settled : NodeId → Option ℕ) (trees : ℕ → TreeValue)
    (waits more : List Batch) (gains_of : Batch → List Gain) →
    ((each : Batch) → Contains waits each → Contains more each) →
    ((each : Batch) → Contains more each → Contains waits each) →
    IsSearching task settled trees waits gains_of → IsSearching task settled trees more gains_of
searching_alike task settled trees waits more gains_of there back searching = record {
  rises = searching.rises;
  supported = searching.supported;
  open_ones = λ each has. searching.open_ones each (back each has);
  reached = searching.reached;
  kept = searching.kept;
  begun = on_its_way task.goal task.most searching.begun;
  followed = λ edge state width number next at low wide leads. ⊎_elim
      (λ (way : IsOnTheWay settled waits (node_id edge.to next) number).
      inl (on_its_way (node_id edge.to next) number way))
      (λ (had : (first : Gain) → Contains task.first first →
      IsAtLeast (min first.cap number)
      (value_of (task.trees first.root) (node_id edge.to next))). inr had)
      (searching.followed edge state width number next at low wide leads);
}
  where
    on_its_way : (id : NodeId) (number : ℕ) → IsOnTheWay settled waits id number →
        IsOnTheWay settled more id number
    on_its_way id number way = ⊎_elim
        (λ (at : IsAtLeast number (settled id)). inl at)
        (λ (has : (each : Batch) × Contains waits each × (target_of each ≡ id) ×
        (number ≤ each.width)). inr (has.0, there has.0 has.1, has.2, has.3))
        way
