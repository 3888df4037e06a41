-- A search under way.
use Rattle.std.proofs.Common.{◌≡◌, ◌≢◌, ℕ, ◌≤◌, ◌<◌, ◌+◌, inl, inr, ⊎_elim, List, [], ◌∷◌, ◌++◌, length, Option, Some, refl, sym, ap, subst, ◌∙◌, arith, Contains, All}
use Rattle.std.proofs.lemmas.Option.{same_Some}
use Rattle.std.proofs.lemmas.List.Elements.{All-head, All-nil, All-push, All-weaker, All-get_or}
use Rattle.std.proofs.lemmas.List.Quantifiers.{all_pairs_push}
use Rattle.std.proofs.lemmas.List.Sums.{sum_by_push}
use Rattle.edge_store.specs.declared.edge.EdgeId.{EdgeId}
use Rattle.edge_store.specs.Edges.{Edges, outs_of}
use Rattle.dfa_table.specs.DfaValue.{DfaValue}
use Rattle.delta_tree.specs.declared.node.NodeId.{NodeId}
use Rattle.delta_tree.specs.declared.node.Node.{Node}
use Rattle.delta_tree.specs.declared.node.Shift.{Shift}
use Rattle.delta_tree.specs.Nodes.{TreeValue, node_of, value_of, node_id}
use Rattle.delta_tree.specs.Changes.{Carries, Raises, Puts, shift_ids}
use Rattle.tree_insert.specs.declared.waiting.Waiting.{Waiting}
use Rattle.tree_insert.specs.Best.{IsAtLeast}
use Rattle.tree_insert.specs.Trees.{count_outs, IsRisen, CountsOuts, Keeps}
use Rattle.tree_insert.specs.Laws.{NoRiseNoStep}
use Rattle.tree_insert.specs.Waiting.{SearchValue, Gains, Takes, source_of, target_of}
use Rattle.tree_insert.specs.UnderWay.{IsSupported, AreSupported, IsOpen, AreOpen, IsServed, IsServedFrom, AreServed, Leaves, Rises, IsCounted, RaisesOnce}
use Rattle.tree_insert.proofs.Bests.{weaker}
use Rattle.tree_insert.proofs.Members.{contains_cases, contains_none}
use Rattle.tree_insert.proofs.Nodes.{value_reached, node_reached, raises_apart, raises_or_reached, put_here, put_node_cases, put_rises, put_reached, put_carries, put_carried}

-- ---- tries that wait

pub gains_kind : (old new : SearchValue) (kind other : Waiting → Type 0) → Gains old new kind →
    ((each : Waiting) → kind each → other each) → Gains old new other
gains_kind old new kind other gains same = record {
  kept = gains.kept;
  only = λ each there. ⊎_elim (λ was. inl was) (λ is. inr (same each is)) (gains.only each there);
  level = gains.level;
  shifts = gains.shifts;
}

pub gains_twice : (old middle new : SearchValue) (kind : Waiting → Type 0) → Gains old middle kind →
    Gains middle new kind → Gains old new kind
gains_twice old middle new kind first second = record {
  kept = λ each there. second.kept each (first.kept each there);
  only = λ each there. ⊎_elim (λ was. first.only each was) (λ is. inr is) (second.only each there);
  level = second.level ∙ first.level;
  shifts = second.shifts ∙ first.shifts;
}

pub served_more : (tree : TreeValue) (waits more : List Waiting) (id : NodeId) (number : ℕ) →
    ((each : Waiting) → Contains waits each → Contains more each) →
    IsServed tree waits id number → IsServed tree more id number
served_more tree waits more id number kept served = ⊎_elim (λ there. inl there)
    (λ (has : (each : Waiting) × Contains waits each × (target_of each ≡ id) ×
    (number ≤ each.value)). inr (has.0, kept has.0 has.1, has.2, has.3)) served

pub served_lower : (tree : TreeValue) (waits : List Waiting) (id : NodeId) (number lower : ℕ) →
    lower ≤ number → IsServed tree waits id number → IsServed tree waits id lower
served_lower tree waits id number lower below served =
    ⊎_elim (λ there. inl (weaker (value_of tree id) number lower there below))
    (λ (has : (each : Waiting) × Contains waits each × (target_of each ≡ id) ×
    (number ≤ each.value)). inr (has.0, has.1, has.2, omega (arith, has.3, below))) served

pub open_gained : (values : EdgeId → Option ℕ) (dfa : DfaValue) (tree : TreeValue)
    (old new : SearchValue) → AreOpen values dfa tree old.waiting →
    Gains old new (IsOpen values dfa tree) → AreOpen values dfa tree new.waiting
open_gained values dfa tree old new opens gains each there =
    ⊎_elim (λ was. opens each was) (λ is. is) (gains.only each there)

-- ---- the tree comes from another by raises

pub rises_itself : (tree : TreeValue) → Rises tree tree
rises_itself tree = record {
  root = refl;
  puts = omega arith;
  nodes = λ id node is. inl is;
  risen = λ id before is. (before, is, omega arith);
}

pub rises_more : (first old new : TreeValue) (to : NodeId) (node : Node) → Rises first old →
    Puts old new to node → Raises old to node.value → node.stamp ≡ old.puts →
    new.root ≡ old.root → new.puts ≡ old.puts + 1 → Rises first new
rises_more first old new to node rises puts raises stamp root more = record {
  root = root ∙ rises.root;
  puts = omega (arith, rises.puts, more);
  nodes = λ id each is. ⊎_elim
      (λ (here : (to ≡ id) × (node ≡ each)). inr (
        (λ before was.
            let now = rises.risen id before was in
            let less : now.0.value < node.value = raises now.0 (ap (node_of old) here.0 ∙ now.1) in
            subst (λ (x : Node). before.value < x.value) here.1 (omega (arith, now.2, less))),
        subst (λ (x : Node). first.puts ≤ x.stamp) here.1 (omega (arith, rises.puts, stamp)),
      ))
      (λ (kept : node_of old id ≡ Some each). rises.nodes id each kept)
      (put_node_cases old new to node puts id each is);
  risen = λ id before was.
      let now = rises.risen id before was in
      let after = put_rises old new to node puts raises id now.0 now.1 in
      (after.0, after.1, omega (arith, now.2, after.2));
}

pub keeps_risen : (first tree : TreeValue) → Rises first tree → Keeps first tree
keeps_risen first tree rises = record {
  same = λ id before after was is equal. ⊎_elim
      (λ (kept : node_of first id ≡ Some after). same_Some after before (sym kept ∙ was))
      (λ (fresh : Raises first id after.value × (first.puts ≤ after.stamp)). absurd
      (omega (arith, fresh.0 before was, equal)))
      (rises.nodes id after is);
  fresh = λ id after is other. ⊎_elim
      (λ (kept : node_of first id ≡ Some after). absurd (other after kept refl))
      (λ (fresh : Raises first id after.value × (first.puts ≤ after.stamp)). fresh.1)
      (rises.nodes id after is);
}

pub risen_more : (first old new : TreeValue) (to id : NodeId) (node : Node) → Puts old new to node →
    Raises old to node.value → IsRisen first old id → IsRisen first new id
risen_more first old new to id node puts raises risen =
    let after = put_rises old new to node puts raises id risen.0 risen.1 in
    (after.0, after.1, λ before was. omega (arith, risen.2 before was, after.2))

-- ---- what supports the nodes

pub supported_more : (values : EdgeId → Option ℕ) (step : ℕ → ℕ → Option ℕ) (old new : TreeValue)
    (to : NodeId) (node : Node) → AreSupported values step old →
    Puts old new to node → IsSupported values step to node → AreSupported values step new
supported_more values step old new to node supported puts here id each is = ⊎_elim
    (λ (same : (to ≡ id) × (node ≡ each)). subst (λ (x : Node). IsSupported values step id x) same.1
    (subst (λ (at : NodeId). IsSupported values step at node) same.0 here))
    (λ (kept : node_of old id ≡ Some each). supported id each kept)
    (put_node_cases old new to node puts id each is)

pub open_more : (values : EdgeId → Option ℕ) (dfa : DfaValue) (old new : TreeValue) (to : NodeId)
    (node : Node) (waits : List Waiting) → AreOpen values dfa old waits →
    Puts old new to node → Raises old to node.value → new.root ≡ old.root →
    AreOpen values dfa new waits
open_more values dfa old new to node waits opens puts raises root each there =
    let was = opens each there in
    record {
      source = put_carries old new to node puts raises root (source_of each) each.value was.source;
      edge = was.edge;
      is_step = was.is_step;
    }

-- ---- what the edges could give

-- after a put and the tries by the edges that leave its place
pub served_put : (values : EdgeId → Option ℕ) (step : ℕ → ℕ → Option ℕ) (old new : TreeValue)
    (taken : Waiting) (node : Node) (waits more : List Waiting) →
    AreServed values step old (taken ∷ waits) → Puts old new (target_of taken) node →
    node.value ≡ taken.value → Raises old (target_of taken) node.value → new.root ≡ old.root →
    ((each : Waiting) → Contains waits each → Contains more each) →
    IsServedFrom values step new more (target_of taken) node.value
    (value_of old (target_of taken)) → AreServed values step new more
served_put values step old new taken node waits more served puts value raises root kept outs edge
    before number state carries reached leads = ⊎_elim
    was_carried
    (λ (here : (to ≡ node_id edge.from before) × (number ≤ node.value)). ⊎_elim
    (λ (higher : Raises old to number).
    outs edge number state (sym (ap (λ (id : NodeId). id.vertex) here.0)) here.1
    (λ there. raises_apart old to number higher there) reached
    (ap (λ (id : NodeId). step id.state edge.label) here.0 ∙ leads))
    (λ (there : IsAtLeast number (value_of old to)).
    let was = node_reached old to number there in
    was_carried (inr (was.0, ap (node_of old) (sym here.0) ∙ was.1, was.2)))
    (raises_or_reached old to number))
    (put_carried old new to node puts raises root (node_id edge.from before) number carries)
  where
    to : NodeId
    to = target_of taken

    -- what could be given before was there, or waited
    was_carried : Carries old (node_id edge.from before) number →
        IsServed new more (node_id edge.to state) number
    was_carried was = ⊎_elim
        (λ (there : IsAtLeast number (value_of old (node_id edge.to state))). inl
        (put_reached old new to node puts raises (node_id edge.to state) number there))
        (λ (has : (each : Waiting) × Contains (taken ∷ waits) each ×
        (target_of each ≡ node_id edge.to state) × (number ≤ each.value)). ⊎_elim
        (λ (it : taken ≡ has.0).
        let at : to ≡ node_id edge.to state = ap target_of it ∙ has.2 in
        let below : number ≤ node.value =
        omega (arith, value, ap (λ (x : Waiting). x.value) it, has.3) in
        inl (subst (λ (id : NodeId). IsAtLeast number (value_of new id)) at
        (value_reached new to node number (put_here old new to node puts) below)))
        (λ (other : Contains waits has.0). inr (has.0, kept has.0 other, has.2, has.3))
        (contains_cases taken waits has.0 has.1))
        (served edge before number state was reached leads)

-- a try that can raise nothing falls away
pub served_without : (values : EdgeId → Option ℕ) (step : ℕ → ℕ → Option ℕ) (tree : TreeValue)
    (taken : Waiting) (waits : List Waiting) →
    AreServed values step tree (taken ∷ waits) →
    IsAtLeast taken.value (value_of tree (target_of taken)) → AreServed values step tree waits
served_without values step tree taken waits served there edge before number state carries reached
    leads = ⊎_elim
    (λ is. inl is)
    (λ (has : (each : Waiting) × Contains (taken ∷ waits) each ×
    (target_of each ≡ node_id edge.to state) × (number ≤ each.value)). ⊎_elim
    (λ (it : taken ≡ has.0). inl (
    let at : target_of taken ≡ node_id edge.to state = ap target_of it ∙ has.2 in
    let below : number ≤ taken.value = omega (arith, ap (λ (x : Waiting). x.value) it, has.3) in
    subst (λ (id : NodeId). IsAtLeast number (value_of tree id)) at
    (weaker (value_of tree (target_of taken)) taken.value number there below)))
    (λ (other : Contains waits has.0). inr (has.0, other, has.2, has.3))
    (contains_cases taken waits has.0 has.1))
    (served edge before number state carries reached leads)

-- ---- the nodes that rose, and steps

pub counted_none : (store : Edges) (tree : TreeValue) (level start : ℕ) →
    IsCounted store tree tree [] level start start
counted_none store tree level start = record {
  apart = λ i j d less within. absurd (omega (arith, within));
  risen = All-nil (IsRisen tree tree);
  firm = All-nil (λ (id : NodeId). IsAtLeast level (value_of tree id));
  few = omega arith;
}

pub counted_lower : (store : Edges) (first tree : TreeValue) (nodes : List NodeId)
    (level lower start steps : ℕ) → lower ≤ level →
    IsCounted store first tree nodes level start steps →
    IsCounted store first tree nodes lower start steps
counted_lower store first tree nodes level lower start steps below counted = record {
  apart = counted.apart;
  risen = counted.risen;
  firm = All-weaker (λ (id : NodeId). IsAtLeast level (value_of tree id))
      (λ (id : NodeId). IsAtLeast lower (value_of tree id))
      (λ id reached. weaker (value_of tree id) level lower reached below) nodes
      counted.firm;
  few = counted.few;
}

module _ (store : Edges) (first old new : TreeValue) (nodes : List NodeId) (to : NodeId)
    (node : Node) (puts : Puts old new to node) where
  module _ (start : ℕ) (raises : Raises old to node.value) where
    -- a put keeps what was counted
    pub counted_put : (level steps : ℕ) → IsCounted store first old nodes level start steps →
        IsCounted store first new nodes level start steps
    counted_put level steps counted = record {
      apart = counted.apart;
      risen = All-weaker (IsRisen first old) (IsRisen first new)
          (λ id risen. risen_more first old new to id node puts raises risen) nodes counted.risen;
      firm = All-weaker (λ (id : NodeId). IsAtLeast level (value_of old id))
          (λ (id : NodeId). IsAtLeast level (value_of new id))
          (λ id reached. put_reached old new to node puts raises id level reached) nodes
          counted.firm;
      few = counted.few;
    }

    pub counted_more : (steps more : ℕ) → IsCounted store first old nodes node.value start steps →
        Rises first old → more ≤ steps + length (outs_of store to.vertex) →
        IsCounted store first new (nodes ++ to ∷ []) node.value start more
    counted_more steps more counted rises bound =
        let kept = counted_put node.value steps counted in
        record {
          apart = all_pairs_push ◌≢◌ nodes to counted.apart
              (λ k d within same. raises_apart old to node.value raises
              (subst (λ (id : NodeId). IsAtLeast node.value (value_of old id)) same
              (All-get_or (λ (id : NodeId). IsAtLeast node.value (value_of old id)) nodes k d within
              counted.firm)));
          risen = All-push (IsRisen first new) nodes to kept.risen (
            node,
            put_here old new to node puts,
            λ before was. let now =
                rises.risen to before was in omega (arith, raises now.0 now.1, now.2),
          );
          firm = All-push (λ (id : NodeId). IsAtLeast node.value (value_of new id)) nodes to
              kept.firm
              (value_reached new to node node.value (put_here old new to node puts) (omega arith));
          few = omega (
            arith,
            counted.few,
            bound,
            sum_by_push (λ (id : NodeId). length (outs_of store id.vertex)) nodes to,
          );
        }

pub counts_outs : (store : Edges) (first tree : TreeValue) (nodes : List NodeId)
    (level start steps : ℕ) → IsCounted store first tree nodes level start steps →
    CountsOuts store first tree start steps
counts_outs store first tree nodes level start steps counted = record {
  nodes = nodes;
  apart = counted.apart;
  risen = counted.risen;
  few = counted.few;
}

-- ---- the last try taken

-- the tries by the edges that leave a node can be taken
pub leaves_open : (values : EdgeId → Option ℕ) (dfa : DfaValue) (tree : TreeValue) (id : NodeId)
    (node : Node) (each : Waiting) → node_of tree id ≡ Some node →
    Leaves values dfa id node.value each → IsOpen values dfa tree each
leaves_open values dfa tree id node each there leaves = record {
  source = subst (λ (at : NodeId). Carries tree at each.value) (sym leaves.source)
      (inr (node, there, leaves.lower));
  edge = leaves.edge;
  is_step = leaves.is_step;
}

pub served_none : (values : EdgeId → Option ℕ) (step : ℕ → ℕ → Option ℕ) (tree : TreeValue)
    (waits : List Waiting) → ((each : Waiting) → Contains waits each → ⊥) →
    AreServed values step tree waits → AreServed values step tree []
served_none values step tree waits none served edge before number state carries reached leads =
    ⊎_elim (λ there. inl there)
    (λ (has : (each : Waiting) × Contains waits each × (target_of each ≡ node_id edge.to state) ×
    (number ≤ each.value)). absurd (none has.0 has.1))
    (served edge before number state carries reached leads)

pub open_taken : (values : EdgeId → Option ℕ) (dfa : DfaValue) (tree : TreeValue)
    (old new : SearchValue) (taken : Waiting) → Takes old new taken →
    AreOpen values dfa tree old.waiting → AreOpen values dfa tree new.waiting
open_taken values dfa tree old new taken takes opens each there = opens each (takes.only each there)

pub served_taken : (values : EdgeId → Option ℕ) (step : ℕ → ℕ → Option ℕ) (tree : TreeValue)
    (old new : SearchValue) (taken : Waiting) → Takes old new taken →
    AreServed values step tree old.waiting → AreServed values step tree (taken ∷ new.waiting)
served_taken values step tree old new taken takes served edge before number state carries reached
    leads =
    served_more tree old.waiting (taken ∷ new.waiting) (node_id edge.to state) number takes.rest
    (served edge before number state carries reached leads)

pub counted_taken : (store : Edges) (first tree : TreeValue) (old new : SearchValue)
    (taken : Waiting) (start steps : ℕ) → Takes old new taken →
    IsCounted store first tree (shift_ids old.shifts) old.level start steps →
    IsCounted store first tree (shift_ids new.shifts) new.level start steps
counted_taken store first tree old new taken start steps takes counted =
    subst (λ (shifts : List Shift).
    IsCounted store first tree (shift_ids shifts) new.level start steps)
    (sym takes.shifts)
    (counted_lower store first tree (shift_ids old.shifts) old.level new.level start steps
    (omega (arith, takes.level, takes.greatest)) counted)

pub open_none : (values : EdgeId → Option ℕ) (dfa : DfaValue) (tree : TreeValue)
    (waits : List Waiting) → waits ≡ [] → AreOpen values dfa tree waits
open_none values dfa tree waits none each there =
    absurd (contains_none each (subst (λ (w : List Waiting). Contains w each) none there))

-- ---- a search that raises nothing

pub no_rise_no_step : NoRiseNoStep
no_rise_no_step store old new start steps counts none = by counts.nodes counts.risen counts.few
  where
    by : (nodes : List NodeId) → All (IsRisen old new) nodes →
        steps ≤ start + count_outs store nodes → steps ≤ start
    by [] risen few = omega (arith, few)
    by (id ∷ nodes) risen few = absurd (none id (All-head (IsRisen old new) id nodes risen))

-- each put so far is reported, also after one try more
pub puts_more : (old middle new : SearchValue) (first before after : TreeValue) →
    middle.shifts ≡ old.shifts → RaisesOnce middle new before after →
    after.puts ≤ before.puts + 1 → before.puts ≤ first.puts + length old.shifts →
    after.puts ≤ first.puts + length new.shifts
puts_more old middle new first before after same (inl is) few puts =
    omega (
      arith,
      is.1,
      puts,
      ap (λ (search : SearchValue). length search.shifts) is.0,
      ap (λ (shifts : List Shift). length shifts) same,
    )
puts_more old middle new first before after same (inr more) few puts =
    omega (arith, few, puts, more, ap (λ (shifts : List Shift). length shifts) same)
