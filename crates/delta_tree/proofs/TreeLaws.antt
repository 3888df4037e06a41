-- The laws of trees.
use Rattle.std.proofs.Common.{◌≡◌, ◌<◌, ◌≤◌, ℕ, ◌⊎◌, inl, inr, List, [], ◌∷◌, ◌++◌, Option, None, Some, refl, sym, ap, subst, ◌∙◌, reverse, arith}
use Rattle.std.proofs.lemmas.List.{reverse-reverse, reverse-append}
use Rattle.std.proofs.lemmas.List.Elements.{Contains-append_cases}
use Rattle.edge_store.specs.declared.edge.EdgeId.{EdgeId}
use Rattle.delta_tree.specs.declared.node.NodeId.{NodeId}
use Rattle.delta_tree.specs.Nodes.{Node, TreeValue, node_of, root_id, IsBefore, IsTree}
use Rattle.delta_tree.specs.Paths.{LeadsUp, IsBelow}
use Rattle.delta_tree.specs.Laws.{EachNodeHasAPath, PathsAreOne, PathsAreWalks, IsWalk, BelowGoesByParents, ParentsComeFirst, RootHasNoNode, PutsAreOfOneNode, ExpiryGoesByValue}
use Rattle.delta_tree.proofs.Ids.{changed_there, changed_else}
use Rattle.due_queue.proofs.Items.{the_one}
use Rattle.delta_tree.proofs.Trees.{same_found, root_has_no_node, below_parent, living_some, living_stays}
use Rattle.delta_tree.proofs.Ways.{node_has_path, path_is_one, parent_place}

-- ---- paths

pub each_node_has_a_path : EachNodeHasAPath
each_node_has_a_path tree kept id node is =
    let (up, leads) = node_has_path tree id kept (inr (node, is)) in
    (reverse up, subst (LeadsUp tree id) (sym (reverse-reverse up)) leads)

pub paths_are_one : PathsAreOne
paths_are_one tree kept id one other leads others =
    sym (reverse-reverse one)
    ∙ ap reverse (path_is_one tree id (reverse one) (reverse other) kept leads others)
    ∙ reverse-reverse other

-- a walk with one edge more
walk_on : (from at to : ℕ) (edges : List EdgeId) (edge : EdgeId) → IsWalk from edges at →
    edge.from ≡ at → edge.to ≡ to →
    IsWalk from (edges ++ edge ∷ []) to
walk_on from at to [] edge walk leaves ends = (leaves ∙ sym walk, ends)
walk_on from at to (first ∷ edges) edge (begins, walk) leaves ends =
    (begins, walk_on first.to at to edges edge walk leaves ends)

-- what leads up is a walk down
walk_down : (tree : TreeValue) → IsTree tree → (id : NodeId) (up : List EdgeId) →
    LeadsUp tree id up → IsWalk tree.root (reverse up) id.vertex
walk_down tree kept id [] at = sym (ap (λ (place : NodeId). place.vertex) at)
walk_down tree kept id (edge ∷ up) (node, is, by_edge, leads) =
    let joins = (kept id node is).joins in
    subst (λ edges. IsWalk tree.root edges id.vertex) (sym (reverse-append (edge ∷ []) up))
    (walk_on tree.root node.parent.vertex id.vertex (reverse up) edge
    (walk_down tree kept node.parent up leads)
    (sym (ap (λ (e : EdgeId). e.from) by_edge) ∙ joins.leaves)
    (sym (ap (λ (e : EdgeId). e.to) by_edge) ∙ joins.ends))

pub paths_are_walks : PathsAreWalks
paths_are_walks tree kept id path leads =
    subst (λ edges. IsWalk tree.root edges id.vertex) (reverse-reverse path)
    (walk_down tree kept id (reverse path) leads)

pub below_goes_by_parents : BelowGoesByParents
below_goes_by_parents tree kept edge id node is = (to_parent, from_parent)
  where
    to_parent : IsBelow tree edge id → (node.edge ≡ edge) ⊎ IsBelow tree edge node.parent
    to_parent ([], leads, (k, within, at)) = absurd (omega (arith, within))
    to_parent (first ∷ up, (found, there, by_first, leads), has) =
        let same : found ≡ node = same_found (node_of tree id) found node there is in
        elim (Contains-append_cases (first ∷ []) up edge has) [
          | inl here ↦ inl (sym (ap (λ (n : Node). n.edge) same) ∙ by_first
              ∙ the_one first edge here)
          | inr later ↦ inr (up, subst (λ (n : Node). LeadsUp tree n.parent up) same leads, later)
        ]

    from_parent : (node.edge ≡ edge) ⊎ IsBelow tree edge node.parent → IsBelow tree edge id
    from_parent (inl by_edge) =
        let (up, leads) = node_has_path tree node.parent kept (parent_place tree id node kept is) in
        (node.edge ∷ up, (node, is, refl, leads), (0, omega arith, by_edge))
    from_parent (inr below) = below_parent tree edge id node is below

-- ---- values

pub parents_come_first : ParentsComeFirst
parents_come_first tree kept id node parent is there = by (kept id node is).parent
  where
    before_both : (first : Node) → IsBefore first node →
        (node.value ≤ first.value) × (node.value ≡ first.value → first.stamp < node.stamp)
    before_both first (inl above) =
        (omega (arith, above), λ same. absurd (omega (arith, above, same)))
    before_both first (inr (same, later)) = (omega (arith, same), λ _. later)

    by : (node.parent ≡ root_id tree)
        ⊎ ((other : Node) × (node_of tree node.parent ≡ Some other) × IsBefore other node) →
        (node.value ≤ parent.value) × (node.value ≡ parent.value → parent.stamp < node.stamp)
    by (inl at) = absurd (root_has_no_node tree parent kept (sym (ap (node_of tree) at) ∙ there))
    by (inr (other, found, before)) =
        before_both parent (subst (λ (n : Node). IsBefore n node)
        (same_found (node_of tree node.parent) other parent found there) before)

pub no_node_at_the_root : RootHasNoNode
no_node_at_the_root tree kept = by (node_of tree (root_id tree)) refl
  where
    by : (found : Option Node) → node_of tree (root_id tree) ≡ found → found ≡ None
    by None is = refl
    by (Some node) is = absurd (root_has_no_node tree node kept is)

-- ---- changes

pub puts_are_of_one_node : PutsAreOfOneNode
puts_are_of_one_node old new id node puts = (
  puts id ∙ changed_there (node_of old id) id id (Some node) refl,
  λ each apart. puts each ∙ changed_else (node_of old each) id each (Some node) apart,
)

pub expiry_goes_by_value : ExpiryGoesByValue
expiry_goes_by_value old new now expires id node = (
  λ is. living_some now (node_of old id) node (sym (expires id) ∙ is),
  λ (is, above). expires id ∙ living_stays now (node_of old id) node is above,
)
