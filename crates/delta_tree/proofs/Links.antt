-- By what nodes hang.
use Rattle.std.proofs.Common.{◌≡◌, ◌↔◌, inl, inr, [], ◌∷◌, Option, None, Some, option_map, refl, sym, ap, subst, ◌∙◌, arith}
use Rattle.edge_store.specs.declared.edge.EdgeId.{EdgeId}
use Rattle.delta_tree.specs.declared.node.Link.{Link}
use Rattle.delta_tree.specs.declared.node.NodeId.{NodeId}
use Rattle.delta_tree.specs.Nodes.{Node, TreeValue, node_of, IsTree}
use Rattle.delta_tree.specs.Paths.{IsBelow, HangsBelow, HangsBy}
use Rattle.delta_tree.specs.Spots.{link_of}
use Rattle.delta_tree.proofs.Ids.{none_or_some, some_is_one}
use Rattle.delta_tree.proofs.Trees.{same_found}
use Rattle.delta_tree.proofs.TreeLaws.{below_goes_by_parents}

-- a link is that of a node
pub linked : (found : Option Node) (link : Link) → option_map link_of found ≡ Some link →
    (node : Node) × (found ≡ Some node) × (link_of node ≡ link)
linked None link is = absurd (none_or_some link is)
linked (Some node) link is = (node, refl, some_is_one (link_of node) link is)

-- where there is none, no node is
pub not_linked : (found : Option Node) → option_map link_of found ≡ None → found ≡ None
not_linked None is = refl
not_linked (Some node) is = absurd (none_or_some (link_of node) (sym is))

module _ (tree : TreeValue) (id : NodeId) (link : Link)
    (is : option_map link_of (node_of tree id) ≡ Some link) where
  -- the node hangs by the edge of its link
  pub by_link : (edge : EdgeId) → link.edge ≡ edge → HangsBy tree edge id
  by_link edge same =
      let (node, there, its) = linked (node_of tree id) link is in
      (node, there, ap (λ (l : Link). l.edge) its ∙ same)

  -- and by no other
  pub link_by : (edge : EdgeId) → HangsBy tree edge id → link.edge ≡ edge
  link_by edge (found, at, by_edge) =
      let (node, there, its) = linked (node_of tree id) link is in
      sym (ap (λ (l : Link). l.edge) its)
      ∙ ap (λ (n : Node). n.edge) (same_found (node_of tree id) node found there at) ∙ by_edge

  -- so it does below the parent
  pub below_link : (parent : NodeId) (edge : EdgeId) → link.parent ≡ parent → link.edge ≡ edge →
      HangsBelow tree parent edge id
  below_link parent edge at same =
      let (node, there, its) = linked (node_of tree id) link is in (
        node,
        there,
        ap (λ (l : Link). l.parent) its ∙ at,
        ap (λ (l : Link). l.edge) its ∙ same,
      )

  pub link_below : (parent : NodeId) (edge : EdgeId) → HangsBelow tree parent edge id →
      (link.parent ≡ parent) × (link.edge ≡ edge)
  link_below parent edge (found, at, below, by_edge) =
      let (node, there, its) = linked (node_of tree id) link is in
      let same = same_found (node_of tree id) node found there at in (
        sym (ap (λ (l : Link). l.parent) its) ∙ ap (λ (n : Node). n.parent) same ∙ below,
        sym (ap (λ (l : Link). l.edge) its) ∙ ap (λ (n : Node). n.edge) same ∙ by_edge,
      )

  -- ---- what is below an edge

  module _ (edge : EdgeId) (kept : IsTree tree) where
    -- the node is below the edge by which it hangs
    pub below_here : link.edge ≡ edge → IsBelow tree edge id
    below_here same =
        let (node, there, its) = linked (node_of tree id) link is in
        (below_goes_by_parents tree kept edge id node there).1
        (inl (ap (λ (l : Link). l.edge) its ∙ same))

    -- and below another one where its parent is
    pub below_next : (link.edge ≡ edge → ⊥) →
        IsBelow tree edge link.parent ↔ IsBelow tree edge id
    below_next apart =
        let (node, there, its) = linked (node_of tree id) link is in
        let goes = below_goes_by_parents tree kept edge id node there in
        let up = ap (λ (l : Link). l.parent) its in (
          λ below. goes.1 (inr (subst (IsBelow tree edge) (sym up) below)),
          λ below. elim (goes.0 below) [
            | inl same ↦ absurd (apart (sym (ap (λ (l : Link). l.edge) its) ∙ same))
            | inr above ↦ subst (IsBelow tree edge) up above
          ],
        )

-- where no node is, nothing is below an edge
pub none_is_below : (tree : TreeValue) (id : NodeId) (edge : EdgeId) → node_of tree id ≡ None →
    IsBelow tree edge id → ⊥
none_is_below tree id edge none ([], leads, (k, within, at)) = absurd (omega (arith, within))
none_is_below tree id edge none (first ∷ up, (node, is, by_first, leads), has) =
    none_or_some node (sym none ∙ is)
