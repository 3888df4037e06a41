-- The roots of a place that are chosen, as callers of a table see them.
use Rattle.std.proofs.Common.{◌≡◌, ◌↔◌, ℕ, ◌∷◌, [], Bool, true, false, cond, min, List, Option, None, Some, map, slice_get, Contains, refl, sym, ap, subst, ◌∙◌, nat_eq}
use Rattle.std.specs.List.{IsDistinct, filter_map}
use Rattle.std.specs.Map.{keys_of, lookup}
use Rattle.small_map.proofs.Entries.{none_or_some, some_is_one}
use Rattle.edge_store.specs.declared.edge.EdgeId.{EdgeId}
use Rattle.edge_store.specs.Edges.{same_edge}
use Rattle.delta_tree.specs.declared.node.NodeId.{NodeId}
use Rattle.delta_tree.specs.declared.node.Node.{Node}
use Rattle.delta_tree.specs.Nodes.{node_id, node_of}
use Rattle.delta_tree.specs.Paths.{HangsBy}
use Rattle.delta_tree.proofs.Ids.{same_edge_is, same_edge_itself}
use Rattle.place_table.specs.declared.gain.Gain.{Gain}
use Rattle.place_table.specs.declared.spot.Spot.{Spot}
use Rattle.place_table.specs.declared.place.Kept.{Kept}
use Rattle.place_table.specs.Kept.{Placed, kept_at, whole, stamp_of, IsThere, IsAbsent}
use Rattle.place_table.specs.Reading.{gain_of, root_by, edge_kept, AreSorted, HasRoots}
use Rattle.place_table.specs.Sound.{tree_kept}
use Rattle.place_table.specs.Table.{TableValue, tree_in, node_at, is_above, IsGainAt, AreGainsAt, AreRootsBy, AreStates}
use Rattle.place_table.proofs.Found.{absent_none}
use Rattle.place_table.proofs.Listed.{from_filter, in_filter, once_filtered, entry_found, entry_of}
use Rattle.place_table.proofs.Seen.{node_kept, seen_node}

-- a node is one of which something is kept
node_whole : (puts : List Spot) (root : ℕ) (id : NodeId) (found : Option Kept) (node : Node) →
    node_kept puts root id found ≡ Some node →
    (kept : Kept) × (found ≡ Some kept) × (whole id kept (stamp_of puts root id) ≡ node)
node_whole puts root id None node is = absurd (none_or_some node is)
node_whole puts root id (Some kept) node is =
    (kept, refl, some_is_one (whole id kept (stamp_of puts root id)) node is)

-- what is chosen by a test
chosen : {Y : Type 0} (test : Bool) (made y : Y) → cond test (Some made) None ≡ Some y →
    (test ≡ true) × (made ≡ y)
chosen true made y is = (refl, some_is_one made y is)
chosen false made y is = absurd (none_or_some y is)

-- the gain that is made of an entry
abbrev made_of : Option ℕ → ℕ → ℕ × Kept → Gain
made_of above most x = record { root = x.0; cap = min x.1.value most; before = above }

gain_is : (above : Option ℕ) (most : ℕ) (gain : Gain) (kept : Kept) →
    min kept.value most ≡ gain.cap → above ≡ gain.before →
    made_of above most (gain.root, kept) ≡ gain
gain_is above most gain kept cap before = λ i. record {
  root = gain.root;
  cap = cap i;
  before = before i;
}

same_map : (xs : List ℕ) → map (λ (x : ℕ). x) xs ≡ xs
same_map [] = refl
same_map (x ∷ xs) = ap (λ l. x ∷ l) (same_map xs)

-- which place it is
pub named_so : (places : List Placed) (id : NodeId) (number : ℕ) (place : Placed) →
    IsThere places id number → slice_get places number ≡ Some place → place.id ≡ id
named_so places id number place (other, here, named) at =
    ap (λ (p : Placed). p.id) (some_is_one place other (sym at ∙ here)) ∙ named

-- what a place shows
pub place_shown : (puts : List Spot) (places : List Placed) (id : NodeId) (number : ℕ)
    (place : Placed) → IsThere places id number → slice_get places number ≡ Some place →
    ((root : ℕ) → kept_at places root place.id ≡ lookup (nat_eq root) place.nodes) → (root : ℕ) →
    node_of (tree_kept puts places root) id
    ≡ node_kept puts root id (lookup (nat_eq root) place.nodes)
place_shown puts places id number place there at kept root =
    seen_node puts places root id
    ∙ ap (node_kept puts root id)
    (ap (kept_at places root) (sym (named_so places id number place there at)) ∙ kept root)

-- a place without roots shows nothing
pub nothing_at : (puts : List Spot) (places : List Placed) (id : NodeId) → IsAbsent places id →
    (root : ℕ) → node_of (tree_kept puts places root) id ≡ None
nothing_at puts places id absent root =
    seen_node puts places root id
    ∙ ap (node_kept puts root id) (absent_none places root id absent)

module _ (puts : List Spot) (table : TableValue) (id : NodeId) (nodes : List (ℕ × Kept))
    (at : (root : ℕ) → node_at table root id ≡ node_kept puts root id (lookup (nat_eq root) nodes))
    (once : IsDistinct nat_eq (keys_of nodes)) where
  stands : (k : ℕ) (x : ℕ × Kept) → slice_get nodes k ≡ Some x →
      node_at table x.0 id ≡ Some (whole id x.1 (stamp_of puts x.0 id))
  stands k x here =
      at x.0 ∙ ap (node_kept puts x.0 id) (entry_found nodes k x once here)

  pub gains_are : (above : Option ℕ) (most : ℕ) →
      AreGainsAt table id above most (filter_map (gain_of above most) nodes)
  gains_are above most = record {
    exact = λ gain. (sound gain, complete gain);
    once = once_filtered (gain_of above most) (λ (gain : Gain). gain.root)
        (λ x gain is. sym (ap (λ (g : Gain). g.root)
        (chosen (is_above above x.1.value) (made_of above most x) gain is).1)) nodes once;
  }
    where
      sound : (gain : Gain) → Contains (filter_map (gain_of above most) nodes) gain →
          IsGainAt table id above most gain
      sound gain has =
          let (k, x, here, made) = from_filter (gain_of above most) nodes gain has in
          let (passes, is) = chosen (is_above above x.1.value) (made_of above most x) gain made in
          subst (IsGainAt table id above most) is
          (whole id x.1 (stamp_of puts x.0 id), stands k x here, passes, refl, refl)

      complete : (gain : Gain) → IsGainAt table id above most gain →
          Contains (filter_map (gain_of above most) nodes) gain
      complete gain (node, there, passes, cap, before) =
          let (kept, found, is) = node_whole puts gain.root id (lookup (nat_eq gain.root) nodes) node
          (sym (at gain.root) ∙ there) in
          let (k, here) = entry_of nodes gain.root kept found in
          let value : kept.value ≡ node.value = ap (λ (n : Node). n.value) is in
          in_filter (gain_of above most) nodes k (gain.root, kept) gain here
          (ap (λ b. cond b (Some (made_of above most (gain.root, kept))) None)
          (ap (is_above above) value ∙ passes)
          ∙ ap Some (gain_is above most gain kept (ap (λ v. min v most) value ∙ sym cap) (sym before)))

  pub roots_are : (edge : EdgeId) → AreRootsBy table id edge (filter_map (root_by edge id) nodes)
  roots_are edge = record {
    exact = λ root. (sound root, complete root);
    once = subst (IsDistinct nat_eq) (same_map (filter_map (root_by edge id) nodes))
        (once_filtered (root_by edge id) (λ (root : ℕ). root)
        (λ x root is. sym (chosen (same_edge (edge_kept id x.1) edge) x.0 root is).1) nodes once);
  }
    where
      sound : (root : ℕ) → Contains (filter_map (root_by edge id) nodes) root →
          HangsBy (tree_in table root) edge id
      sound root has =
          let (k, x, here, made) = from_filter (root_by edge id) nodes root has in
          let (passes, is) = chosen (same_edge (edge_kept id x.1) edge) x.0 root made in
          subst (λ r. HangsBy (tree_in table r) edge id) is (
            whole id x.1 (stamp_of puts x.0 id),
            stands k x here,
            same_edge_is (edge_kept id x.1) edge passes,
          )

      complete : (root : ℕ) → HangsBy (tree_in table root) edge id →
          Contains (filter_map (root_by edge id) nodes) root
      complete root (node, there, hangs) =
          let (kept, found, is) = node_whole puts root id (lookup (nat_eq root) nodes) node
          (sym (at root) ∙ there) in
          let (k, here) = entry_of nodes root kept found in
          in_filter (root_by edge id) nodes k (root, kept) root here
          (ap (λ e. cond (same_edge e edge) (Some root) None)
          (ap (λ (n : Node). n.edge) is ∙ hangs)
          ∙ ap (λ b. cond b (Some root) None) (same_edge_itself edge))

-- the states at a vertex, put in order
pub states_are : (puts : List Spot) (places : List Placed) (table : TableValue) (vertex : ℕ)
    (states sorted : List ℕ) →
    ((root : ℕ) (id : NodeId) → node_at table root id ≡ node_of (tree_kept puts places root) id) →
    ((state : ℕ) → Contains states state ↔ HasRoots places (node_id vertex state)) →
    AreSorted states sorted → AreStates table vertex sorted
states_are puts places table vertex states sorted at exact order state = (
  (λ has. let (root, kept, is) = (exact state).0 ((order.exact state).0 has) in (
    root,
    whole (node_id vertex state) kept (stamp_of puts root (node_id vertex state)),
    at root (node_id vertex state) ∙ seen_node puts places root (node_id vertex state)
        ∙ ap (node_kept puts root (node_id vertex state)) is,
  )),
  (λ (root, node, is).
      let (kept, found, same) = node_whole puts root (node_id vertex state)
      (kept_at places root (node_id vertex state)) node
      (sym (at root (node_id vertex state) ∙ seen_node puts places root (node_id vertex state))
      ∙ is) in
      (order.exact state).1 ((exact state).1 (root, kept, found))),
)
