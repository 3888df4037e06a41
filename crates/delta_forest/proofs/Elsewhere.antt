-- Trees that a change leaves optimal, and trees before and after a change.
use Rattle.std.proofs.Common.{◌≡◌, ◌≢◌, ℕ, ◌<◌, ◌≤◌, Bool, true, false, cond, List, [], ◌∷◌, Option, Some, None, refl, sym, ap, subst, ◌∙◌, inl, inr, ⊎_elim, Contains}
use Rattle.std.proofs.lemmas.Option.{same_Some}
use Rattle.std.proofs.lemmas.Bool.{both_ways}
use Rattle.std.proofs.lemmas.List.Elements.{All-weaker}
use Rattle.rpq_base.proofs.Members.{cons_members, none_in}
use Rattle.edge_store.specs.declared.edge.EdgeId.{EdgeId}
use Rattle.edge_store.specs.Edges.{Edges, Updates, above, same_edge, value_of as value_in}
use Rattle.delta_tree.specs.declared.node.NodeId.{NodeId}
use Rattle.delta_tree.specs.declared.node.Node.{Node}
use Rattle.delta_tree.specs.Nodes.{TreeValue, node_id, node_of, value_of, IsTree}
use Rattle.delta_tree.specs.Changes.{living}
use Rattle.delta_tree.specs.Paths.{HangsBy, LeadsUp}
use Rattle.delta_tree.proofs.Ids.{same_edge_is, same_edge_itself}
use Rattle.delta_tree.proofs.Trees.{living_stays}
use Rattle.tree_insert.specs.Best.{IsAtLeast, IsWay}
use Rattle.tree_insert.specs.Trees.{IsOptimal, IsRaised}
use Rattle.tree_insert.proofs.Bests.{greatest_is, greatest_reached, best_is_settled}
use Rattle.tree_insert.proofs.Expiry.{expiry_keeps_optimal, raises_are_raises}
use Rattle.tree_insert.proofs.Nodes.{node_reached, value_is}
use Rattle.tree_insert.specs.Laws.{RaiseElsewhereKeepsOptimal}
use Rattle.tree_delete.specs.Laws.{RemovalElsewhereKeepsOptimal}
use Rattle.tree_delete.specs.Removal.{IsRemoved}
use Rattle.source_tree.specs.declared.change.Change.{Change}
use Rattle.source_tree.specs.declared.change.Change.TheVariants.{Raise, Remove, Expire}
use Rattle.source_tree.specs.Product.{ProductValue, steps_of}
use Rattle.source_tree.specs.Taking.{KeepsNodes, WasOptimalBefore}
use Rattle.delta_forest.specs.Changes.{TakesChange}
use Rattle.delta_forest.specs.Candidates.{IsElsewhere}
use Rattle.delta_forest.proofs.Sources.{OrNot, found_or_not}

-- ---- stores

pub removed_is : (old new : Edges) (edge : EdgeId) → Updates old new edge None →
    IsRemoved (value_in old) (value_in new) edge
removed_is old new edge updates = record {
  gone = updates edge ∙ ap (λ (b : Bool). cond b None (value_in old edge)) (same_edge_itself edge);
  others = λ each differ. updates each
      ∙ ap (λ (b : Bool). cond b None (value_in old each)) (apart each differ);
}
  where
    apart : (each : EdgeId) → each ≢ edge → same_edge edge each ≡ false
    apart each differ = by (same_edge edge each) refl
      where
        by : (b : Bool) → same_edge edge each ≡ b → b ≡ false
        by true is = absurd (differ (sym (same_edge_is edge each is)))
        by false is = refl

-- a tree that was optimal for the store before the change was so before it
pub was_optimal : (change : Change) (old : Edges) (product : ProductValue) (tree : TreeValue) →
    TakesChange change old product.store →
    IsOptimal (value_in old) (steps_of product) tree → WasOptimalBefore change product tree
was_optimal (Raise edge value) old product tree takes optimal =
    (value_in old, optimal, raises_are_raises old product.store edge value takes)
was_optimal (Remove edge) old product tree takes optimal =
    (value_in old, optimal, removed_is old product.store edge takes)
was_optimal (Expire now) old product tree takes optimal = (value_in old, optimal, takes)

-- ---- trees that stay

lives : (tree : TreeValue) (now : ℕ) →
    ((id : NodeId) (node : Node) → node_of tree id ≡ Some node → now < node.value) →
    (id : NodeId) → node_of tree id ≡ living now (node_of tree id)
lives tree now above id = ⊎_elim
    (λ (found : (node : Node) × (node_of tree id ≡ Some node)).
    found.1 ∙ sym (living_stays now (node_of tree id) found.0 found.1 (above id found.0 found.1)))
    (λ (none : node_of tree id ≡ None). none ∙ sym (ap (living now) none))
    (found_or_not (node_of tree id))

pub still_optimal : (change : Change) (old new : Edges) (step : ℕ → ℕ → Option ℕ)
    (tree : TreeValue) → RaiseElsewhereKeepsOptimal → RemovalElsewhereKeepsOptimal →
    TakesChange change old new → IsTree tree → IsOptimal (value_in old) step tree →
    IsElsewhere change step tree → IsOptimal (value_in new) step tree
still_optimal (Raise edge value) old new step tree raises removes takes is_tree optimal elsewhere =
    raises (value_in old) (value_in new) step tree edge is_tree optimal
    (raises_are_raises old new edge value takes) elsewhere
still_optimal (Remove edge) old new step tree raises removes takes is_tree optimal elsewhere =
    removes (value_in old) (value_in new) step tree edge is_tree optimal
    (removed_is old new edge takes) elsewhere
still_optimal (Expire now) old new step tree raises removes takes is_tree optimal elsewhere =
    expiry_keeps_optimal (value_in old) (value_in new) step tree tree now takes
    (lives tree now elsewhere) refl optimal

-- a node is hung by each edge of its path
hung : (tree : TreeValue) (edge : EdgeId) (up : List EdgeId) (id : NodeId) →
    LeadsUp tree id up → Contains up edge → (at : NodeId) × HangsBy tree edge at
hung tree edge [] id leads member = absurd (none_in edge member)
hung tree edge (first ∷ rest) id leads member = ⊎_elim
    (λ (here : first ≡ edge). (id, (leads.0, leads.1, leads.2 ∙ here)))
    (λ further. hung tree edge rest leads.0.parent leads.3 further)
    ((cons_members first rest edge).0 member)

pub keeps_itself : (change : Change) (step : ℕ → ℕ → Option ℕ) (tree : TreeValue) →
    IsElsewhere change step tree → KeepsNodes change tree tree
keeps_itself (Raise edge value) step tree elsewhere = record {
  same = λ id before after is also same.
      same_Some after before (sym also ∙ is);
  fresh = λ id after is differ. absurd (differ after is refl);
}
keeps_itself (Remove edge) step tree elsewhere = record {
  same = λ id node is apart. is;
  fresh = λ id after is below.
      let up = below after is in
      let at = hung tree edge up.0 id up.1 up.2 in
      absurd (elsewhere at.0 at.1);
}
keeps_itself (Expire now) step tree elsewhere = record {
  same = λ id before after is also same.
      same_Some after before (sym also ∙ is);
  fresh = λ id after is differ. absurd (differ after is refl);
}

-- ---- trees after a raise

-- a node of a tree that was optimal stands in the one that is so after a raise, and is no lower
pub raise_keeps_nodes : (before after : EdgeId → Option ℕ) (step : ℕ → ℕ → Option ℕ)
    (old new : TreeValue) (edge : EdgeId) (id : NodeId) (node : Node) →
    IsOptimal before step old → IsOptimal after step new → IsRaised before after edge →
    new.root ≡ old.root → node_of old id ≡ Some node →
    (there : Node) × (node_of new id ≡ Some there) × (node.value ≤ there.value)
raise_keeps_nodes before after step old new edge id node was is raised root there =
    let kind =
    λ (number : ℕ). (path : List EdgeId) × IsWay before step old.root id.vertex id.state
    number path in
    let goal =
    λ (number : ℕ). (path : List EdgeId) × IsWay after step new.root id.vertex id.state
    number path in
    let way =
    greatest_is (value_of old id) kind node.value (was.best id) (value_is old id node there) in
    let still : IsWay after step old.root id.vertex id.state node.value way.0 = record {
      some = way.1.some;
      leads = way.1.leads;
      least = All-weaker (λ (each : EdgeId). IsAtLeast node.value (before each))
          (λ (each : EdgeId). IsAtLeast node.value (after each))
          (λ each reached. higher each reached) way.0 way.1.least;
    } in
    let moved =
    subst (λ (at : ℕ). IsWay after step at id.vertex id.state node.value way.0) (sym root) still in
    node_reached new id node.value
    (greatest_reached (value_of new id) goal node.value (is.best id) (way.0, moved))
  where
    higher : (each : EdgeId) → IsAtLeast node.value (before each) →
        IsAtLeast node.value (after each)
    higher each reached = by (same_edge edge each) refl
      where
        by : (b : Bool) → same_edge edge each ≡ b → IsAtLeast node.value (after each)
        by true same =
            let here = same_edge_is edge each same in
            subst (λ (e : EdgeId). IsAtLeast node.value (after e)) here
            (raised.rises node.value
            (subst (λ (e : EdgeId). IsAtLeast node.value (before e)) (sym here) reached))
        by false differ =
            let apart : each ≢ edge = λ here. both_ways (same_edge edge each) differ
            (ap (same_edge edge) here ∙ same_edge_itself edge) in
            subst (IsAtLeast node.value) (sym (raised.others each apart)) reached

-- ---- trees without nodes

pub no_node : (tree : TreeValue) (id : NodeId) → tree.nodes ≡ [] → node_of tree id ≡ None
no_node tree id bare =
    ap (λ nodes. node_of (record { root = tree.root; nodes = nodes; puts = tree.puts }) id) bare

pub no_value : (tree : TreeValue) (id : NodeId) → tree.nodes ≡ [] → value_of tree id ≡ None
no_value tree id bare =
    ap (λ nodes. value_of (record { root = tree.root; nodes = nodes; puts = tree.puts }) id) bare

pub bare_or_not : (tree : TreeValue) → OrNot (tree.nodes ≡ [])
bare_or_not tree = by tree.nodes refl
  where
    by : (nodes : List (NodeId × Node)) → tree.nodes ≡ nodes → OrNot (tree.nodes ≡ [])
    by [] is = inl is
    by (first ∷ rest) is = inr (λ bare.
        let no : first ∷ rest ≡ [] = sym is ∙ bare in absurd cc)

-- an optimal tree has nodes where an edge leaves its root with a step from the start
pub not_bare : (values : EdgeId → Option ℕ) (step : ℕ → ℕ → Option ℕ) (tree : TreeValue)
    (edge : EdgeId) (value state : ℕ) → IsOptimal values step tree → values edge ≡ Some value →
    edge.from ≡ tree.root → step 0 edge.label ≡ Some state → tree.nodes ≢ []
not_bare values step tree edge value state optimal is from leads bare =
    let numbers = λ (vertex at : ℕ). value_of tree (node_id vertex at) in
    let settled = (best_is_settled values step tree.root numbers).0
    (λ vertex at. optimal.best (node_id vertex at)) in
    let reached = settled.1.first edge value state is from leads in
    subst (IsAtLeast value) (no_value tree (node_id edge.to state) bare) reached
