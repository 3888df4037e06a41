-- The paths of the nodes of a tree.
use Rattle.std.proofs.Common.{◌≡◌, ℕ, ◌≤◌, ◌<◌, inr, ⊎_elim, List, [], ◌∷◌, Option, Some, refl, sym, ap, subst, ◌∙◌, arith}
use Rattle.std.proofs.lemmas.Option.{same_Some}
use Rattle.std.proofs.lemmas.List.Elements.{All-head}
use Rattle.edge_store.specs.declared.edge.EdgeId.{EdgeId}
use Rattle.delta_tree.specs.declared.node.NodeId.{NodeId}
use Rattle.delta_tree.specs.declared.node.Node.{Node}
use Rattle.delta_tree.specs.Nodes.{TreeValue, node_of, root_id, IsTree, IsBefore}
use Rattle.delta_tree.specs.Paths.{LeadsUp}
use Rattle.delta_tree.proofs.Ways.{node_has_path}
use Rattle.tree_insert.specs.Best.{IsAtLeast, IsRoute, IsWay}
use Rattle.tree_insert.specs.Trees.{HasOwnWays}
use Rattle.tree_insert.specs.UnderWay.{AreSupported}
use Rattle.tree_insert.proofs.Bests.{first_way, onward_way, way_weaker}
use Rattle.tree_insert.proofs.Nodes.{root_is_none}

-- each node has a path
pub path_there : (tree : TreeValue) (id : NodeId) (node : Node) → IsTree tree →
    node_of tree id ≡ Some node → (path : List EdgeId) × LeadsUp tree id path
path_there tree id node is there = node_has_path tree id is (inr (node, there))

-- ---- paths and the edges to parents

-- a path leads to one state
pub route_one : (step : ℕ → ℕ → Option ℕ) (root : ℕ) (path : List EdgeId)
    (vertex other state also : ℕ) → IsRoute step root path vertex state →
    IsRoute step root path other also →
    state ≡ also
route_one step root [] vertex other state also first second = first.1 ∙ sym second.1
route_one step root (edge ∷ path) vertex other state also first second =
    let before =
    route_one step root path edge.from edge.from first.1.0 second.1.0 first.1.1 second.1.1 in
    same_Some state also (sym first.1.2 ∙ (ap (λ (s : ℕ). step s edge.label) before ∙ second.1.2))

-- only the empty path leads up from the root
root_path : (tree : TreeValue) (id : NodeId) (path : List EdgeId) → IsTree tree →
    id ≡ root_id tree → LeadsUp tree id path → path ≡ []
root_path tree id [] is root leads = refl
root_path tree id (edge ∷ path) is root leads =
    absurd (root_is_none tree id leads.0 is (ap (λ (at : NodeId). at.state) root) leads.1)

module _ (values : EdgeId → Option ℕ) (step : ℕ → ℕ → Option ℕ) (tree : TreeValue)
    (is : IsTree tree) where
  -- where the edges to the parents support the nodes, the paths do
  pub ways_of_supported : AreSupported values step tree → HasOwnWays values step tree
  ways_of_supported supported id node [] there leads =
      absurd (root_is_none tree id node is (ap (λ (at : NodeId). at.state) leads) there)
  ways_of_supported supported id node (edge ∷ path) there leads =
      let same : leads.0 ≡ node = same_Some leads.0 node (sym leads.1 ∙ there) in
      let edge_same : node.edge ≡ edge = ap (λ (each : Node). each.edge) (sym same) ∙ leads.2 in
      let up : LeadsUp tree node.parent path =
      subst (λ (each : Node). LeadsUp tree each.parent path) same leads.3 in
      let here = supported id node there in
      let stands = is id node there in
      let way : IsWay values step tree.root id.vertex id.state node.value (node.edge ∷ path) =
      subst (λ (at : ℕ). IsWay values step tree.root at id.state node.value (node.edge ∷ path))
      stands.joins.ends (⊎_elim
      (λ (root : node.parent ≡ root_id tree).
      let none = root_path tree node.parent path is root up in
      subst (λ (rest : List EdgeId). IsWay values step tree.root node.edge.to id.state node.value
      (node.edge ∷ rest)) (sym none)
      (first_way values step tree.root node.edge node.value id.state here.edge
      (stands.joins.leaves ∙ ap (λ (at : NodeId). at.vertex) root)
      (ap (λ (at : NodeId). step at.state node.edge.label) (sym root) ∙ here.leads)))
      (λ (has : (above : Node) × (node_of tree node.parent ≡ Some above) × IsBefore above node).
      let further = ways_of_supported supported node.parent has.0 path has.1 up in
      let lower : node.value ≤ has.0.value =
      ⊎_elim (λ (first : node.value < has.0.value). omega arith)
      (λ (tied : (has.0.value ≡ node.value) × (has.0.stamp < node.stamp)). omega arith) has.2 in
      onward_way values step tree.root node.edge node.value node.parent.state id.state path
      here.edge here.leads
      (subst (λ (at : ℕ). IsWay values step tree.root at node.parent.state node.value path)
      (sym stands.joins.leaves)
      (way_weaker values step tree.root node.parent.vertex node.parent.state has.0.value node.value
      path lower further)))
      stands.parent) in
      subst (λ (e : EdgeId). IsWay values step tree.root id.vertex id.state node.value (e ∷ path))
      edge_same way

  -- and the other way round
  pub supported_of_ways : HasOwnWays values step tree → AreSupported values step tree
  supported_of_ways ways id node there =
      let stands = is id node there in
      let parent = node.parent in
      let above : (path : List EdgeId) × LeadsUp tree parent path × IsRoute step tree.root path
      parent.vertex parent.state = ⊎_elim
      (λ (root : parent ≡ root_id tree).
      ([], root, (ap (λ (at : NodeId). at.vertex) root, ap (λ (at : NodeId). at.state) root)))
      (λ (has : (above : Node) × (node_of tree parent ≡ Some above) × IsBefore above node).
      let path = path_there tree parent has.0 is has.1 in
      (path.0, path.1, (ways parent has.0 path.0 has.1 path.1).leads))
      stands.parent in
      let way = ways id node (node.edge ∷ above.0) there (node, there, refl, above.1) in
      let state : way.leads.1.0 ≡ parent.state =
      route_one step tree.root above.0 node.edge.from parent.vertex way.leads.1.0 parent.state
      way.leads.1.1 above.2 in
      record {
        edge = All-head (λ (edge : EdgeId). IsAtLeast node.value (values edge)) node.edge above.0
            way.least;
        leads = ap (λ (s : ℕ). step s node.edge.label) (sym state) ∙ way.leads.1.2;
      }
