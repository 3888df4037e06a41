-- A put, as a table sees it.
use Rattle.std.proofs.Common.{◌≡◌, ◌↔◌, ℕ, Bool, List, Option, None, Some, option_map, IsTrue, sym, ap, ◌∙◌}
use Rattle.small_map.proofs.Entries.{none_or_some, some_is_one}
use Rattle.edge_store.specs.declared.edge.EdgeId.{EdgeId}
use Rattle.edge_store.specs.Edges.{same_edge}
use Rattle.delta_tree.specs.declared.node.NodeId.{NodeId}
use Rattle.delta_tree.specs.declared.node.Node.{Node}
use Rattle.delta_tree.specs.Nodes.{node_of, value_of}
use Rattle.delta_tree.specs.Paths.{HangsBy}
use Rattle.delta_tree.proofs.Ids.{same_edge_is, same_edge_itself}
use Rattle.place_table.specs.declared.spot.Spot.{Spot}
use Rattle.place_table.specs.declared.place.Kept.{Kept}
use Rattle.place_table.specs.Kept.{Placed, kept_at, stamp_of, whole}
use Rattle.place_table.specs.Reading.{edge_kept}
use Rattle.place_table.specs.Sound.{tree_kept}
use Rattle.place_table.proofs.Seen.{node_kept, seen_node, seen_value}

-- ---- what is read

module _ (puts : List Spot) (places : List Placed) (root : ℕ) (id : NodeId) where
  pub value_found : (found : Option Kept) → found ≡ kept_at places root id →
      option_map (λ (kept : Kept). kept.value) found ≡ value_of (tree_kept puts places root) id
  value_found found is =
      ap (option_map (λ (kept : Kept). kept.value)) is ∙ sym (seen_value puts places root id)

  pub node_found : (kept : Kept) → Some kept ≡ kept_at places root id →
      node_of (tree_kept puts places root) id ≡ Some (whole id kept (stamp_of puts root id))
  node_found kept is =
      seen_node puts places root id ∙ ap (node_kept puts root id) (sym is)

  pub hangs_found : (kept : Kept) (edge own : EdgeId) (same : Bool) →
      Some kept ≡ kept_at places root id → own ≡ edge_kept id kept → same ≡ same_edge own edge →
      IsTrue same ↔ HangsBy (tree_kept puts places root) edge id
  hangs_found kept edge own same is made told = (
    (λ yes. (
      whole id kept (stamp_of puts root id),
      node_found kept is,
      sym made ∙ same_edge_is own edge (sym told ∙ yes),
    )),
    (λ (node, there, by_edge). told
        ∙ ap (λ e. same_edge e edge) (made
        ∙ ap (λ (n : Node). n.edge) (some_is_one (whole id kept (stamp_of puts root id)) node
        (sym (node_found kept is) ∙ there)) ∙ by_edge)
        ∙ same_edge_itself edge),
  )

  pub hangs_nowhere : (edge : EdgeId) → None ≡ kept_at places root id →
      HangsBy (tree_kept puts places root) edge id → ⊥
  hangs_nowhere edge is (node, there, by_edge) =
      none_or_some node (ap (node_kept puts root id) is ∙ sym (seen_node puts places root id) ∙ there)
