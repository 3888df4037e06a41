-- What an expiry leaves of an optimal tree, and trees without nodes.
use Rattle.std.proofs.Common.{◌≡◌, ◌≢◌, ℕ, ◌≤◌, ◌<◌, ◌+◌, ⊎_elim, max, Bool, true, false, cond, nat_lt, List, [], ◌∷◌, Option, Some, None, refl, sym, ap, subst, ◌∙◌, arith}
use Rattle.std.proofs.lemmas.Bool.{lt-ltb, ltb-true}
use Rattle.std.proofs.lemmas.Option.{none-some}
use Rattle.std.proofs.lemmas.List.Elements.{All-weaker}
use Rattle.edge_store.specs.declared.edge.EdgeId.{EdgeId}
use Rattle.edge_store.specs.Edges.{Edges, above, raised, same_edge}
use Rattle.edge_store.specs.Edges as store
use Rattle.delta_tree.specs.declared.node.NodeId.{NodeId}
use Rattle.delta_tree.specs.declared.node.Node.{Node}
use Rattle.delta_tree.specs.Nodes.{TreeValue, node_of, value_of, node_id, root_id}
use Rattle.delta_tree.specs.Paths.{LeadsUp}
use Rattle.delta_tree.specs.Changes.{Expires}
use Rattle.tree_insert.specs.Best.{IsAtLeast, IsWay}
use Rattle.tree_insert.specs.Trees.{IsOptimal}
use Rattle.tree_insert.specs.Laws.{ExpiryKeepsOptimal, BareIsOptimal, RaisesAreRaises}
use Rattle.tree_insert.proofs.Bests.{greatest_from, greatest_is, greatest_reached}
use Rattle.tree_insert.proofs.Bests as bests
use Rattle.tree_insert.proofs.Nodes.{value_is, node_is, node_reached, value_reached}
use Rattle.delta_tree.proofs.Ids.{same_edge_is, same_edge_itself}
use Rattle.delta_tree.proofs.Trees.{living_some, living_stays}
use Rattle.tree_insert.proofs.Optimal.{optimal_of_served}

-- ---- values and nodes above a clock

above_both : (now : ℕ) (value : Option ℕ) (number : ℕ) → IsAtLeast number (above now value) →
    IsAtLeast (max number (now + 1)) value
above_both now None number reached = absurd reached
above_both now (Some value) number reached = by (nat_lt now value) refl reached
  where
    by : (b : Bool) → nat_lt now value ≡ b → IsAtLeast number (cond b (Some value) None) →
        max number (now + 1) ≤ value
    by true is there = let less : now < value = ltb-true now value is in omega (arith, there, less)
    by false is there = absurd there

above_kept : (now : ℕ) (value : Option ℕ) (number : ℕ) → now < number → IsAtLeast number value →
    IsAtLeast number (above now value)
above_kept now None number later reached = reached
above_kept now (Some value) number later reached =
    subst (λ (b : Bool). IsAtLeast number (cond b (Some value) None))
    (sym (lt-ltb now value (omega (arith, later, reached)))) reached

above_same : (now : ℕ) (value : Option ℕ) (number : ℕ) → now < number → value ≡ Some number →
    above now value ≡ Some number
above_same now value number later is =
    ap (above now) is ∙ ap (λ (b : Bool). cond b (Some number) None) (lt-ltb now number later)

module _ (before after : EdgeId → Option ℕ) (step : ℕ → ℕ → Option ℕ) (old new : TreeValue)
    (now : ℕ)
    (edges : (edge : EdgeId) → after edge ≡ above now (before edge)) (gone : Expires old new now)
    (root : new.root ≡ old.root) where
  -- a node that stayed
  there : (id : NodeId) (node : Node) → node_of new id ≡ Some node →
      (node_of old id ≡ Some node) × (now < node.value)
  there id node is = living_some now (node_of old id) node (sym (gone id) ∙ is)

  -- a path in the new tree is one in the old one
  leads_in_old : (id : NodeId) (path : List EdgeId) → LeadsUp new id path → LeadsUp old id path
  leads_in_old id [] leads = leads ∙ ap (λ (at : ℕ). node_id at 0) root
  leads_in_old id (edge ∷ path) leads =
      (leads.0, (there id leads.0 leads.1).0, leads.2, leads_in_old leads.0.parent path leads.3)

  -- a way above the clock is a way still, and each way is one above the clock
  way_after : (vertex state number : ℕ) (path : List EdgeId) → now < number →
      IsWay before step old.root vertex state number path →
      IsWay after step new.root vertex state number path
  way_after vertex state number path later way =
      subst (λ (at : ℕ). IsWay after step at vertex state number path) (sym root) (record {
        some = way.some;
        leads = way.leads;
        least = All-weaker (λ (edge : EdgeId). IsAtLeast number (before edge))
            (λ (edge : EdgeId). IsAtLeast number (after edge))
            (λ edge reached. subst (IsAtLeast number) (sym (edges edge))
            (above_kept now (before edge) number later reached)) path way.least;
      })

  way_before : (vertex state number : ℕ) (path : List EdgeId) →
      IsWay after step new.root vertex state number path →
      IsWay before step old.root vertex state (max number (now + 1)) path
  way_before vertex state number path way =
      subst (λ (at : ℕ). IsWay before step at vertex state (max number (now + 1)) path) root
      (record {
        some = way.some;
        leads = way.leads;
        least = All-weaker (λ (edge : EdgeId). IsAtLeast number (after edge))
            (λ (edge : EdgeId). IsAtLeast (max number (now + 1)) (before edge))
            (λ edge reached. above_both now (before edge) number
            (subst (IsAtLeast number) (edges edge) reached)) path way.least;
      })

  kept_optimal : IsOptimal before step old → IsOptimal after step new
  kept_optimal optimal = record {
    best = λ id.
        let kind =
        λ (number : ℕ). (path : List EdgeId) × IsWay after step new.root id.vertex id.state
        number path in
        let was =
        λ (number : ℕ). (path : List EdgeId) × IsWay before step old.root id.vertex id.state
        number path in
        greatest_from (value_of new id) kind
        (λ number is.
        let node = node_is new id number is in
        let stays = there id node.0 node.1 in
        let way =
        greatest_is (value_of old id) was number (optimal.best id)
        (value_is old id node.0 stays.0 ∙ ap (λ (n : ℕ). Some n) node.2) in
        (way.0, way_after id.vertex id.state number way.0 (omega (arith, stays.1, node.2)) way.1))
        (λ number has.
        let way = way_before id.vertex id.state number has.0 has.1 in
        let node =
        node_reached old id (max number (now + 1))
        (greatest_reached (value_of old id) was (max number (now + 1)) (optimal.best id)
        (has.0, way)) in
        value_reached new id node.0 number
        (gone id ∙ living_stays now (node_of old id) node.0 node.1 (omega (arith, node.2)))
        (omega (arith, node.2)));
    paths = λ id node path is leads.
        let stays = there id node is in
        way_after id.vertex id.state node.value path stays.1
        (optimal.paths id node path stays.0 (leads_in_old id path leads));
    least = λ id node path is leads.
        let stays = there id node is in
        let was = optimal.least id node path stays.0 (leads_in_old id path leads) in
        record {
          met = (
            was.met.0,
            was.met.1,
            was.met.2,
            was.met.3,
            edges was.met.1 ∙ above_same now
                (before was.met.1) node.value stays.1 was.met.4,
          );
          least = All-weaker (λ (edge : EdgeId). IsAtLeast node.value (before edge))
              (λ (edge : EdgeId). IsAtLeast node.value (after edge))
              (λ edge reached. subst (IsAtLeast node.value) (sym (edges edge))
              (above_kept now (before edge) node.value stays.1 reached)) path was.least;
        };
  }

-- ---- laws

pub expiry_keeps_optimal : ExpiryKeepsOptimal
expiry_keeps_optimal before after step old new now edges gone root optimal =
    kept_optimal before after step old new now edges gone root optimal

pub bare_is_optimal : BareIsOptimal
bare_is_optimal values step tree bare none = optimal_of_served values step tree
    (λ id node is. absurd (empty id node is))
    (λ id node is. absurd (empty id node is))
    (λ edge before number state carries reached leads. ⊎_elim
    (λ (root : node_id edge.from before ≡ root_id tree).
    let has = bests.value_of (values edge) number reached in
    absurd (none edge has.0 state has.1 (ap (λ (id : NodeId). id.vertex) root)
    (ap (λ (id : NodeId). step id.state edge.label) (sym root) ∙ leads)))
    (λ (has : (node : Node) × (node_of tree (node_id edge.from before) ≡ Some node) ×
    (number ≤ node.value)). absurd (empty (node_id edge.from before) has.0 has.1))
    carries)
  where
    empty : (id : NodeId) (node : Node) → node_of tree id ≡ Some node → ⊥
    empty id node is =
        none-some node
        (sym (ap (λ nodes. node_of (record { root = tree.root; nodes = nodes; puts = tree.puts })
        id) bare) ∙ is)

pub raises_are_raises : RaisesAreRaises
raises_are_raises old new edge value updates = record {
  rises = λ number reached.
      subst (IsAtLeast number) (sym (here edge (same_edge_itself edge)))
      (higher (store.value_of old edge) number reached);
  others = λ each apart. updates each ∙ ap
      (λ (b : Bool). cond b (Some (raised (store.value_of old edge) value))
      (store.value_of old each)) (differ each apart);
}
  where
    here : (each : EdgeId) → same_edge edge each ≡ true →
        store.value_of new each ≡ Some (raised (store.value_of old edge) value)
    here each is =
        updates each ∙ ap
        (λ (b : Bool). cond b (Some (raised (store.value_of old edge) value))
        (store.value_of old each)) is

    higher : (was : Option ℕ) (number : ℕ) → IsAtLeast number was → number ≤ raised was value
    higher None number reached = absurd reached
    higher (Some was) number reached = omega arith

    differ : (each : EdgeId) → each ≢ edge → same_edge edge each ≡ false
    differ each apart = by (same_edge edge each) refl
      where
        by : (b : Bool) → same_edge edge each ≡ b → b ≡ false
        by true is = absurd (apart (sym (same_edge_is edge each is)))
        by false is = refl
