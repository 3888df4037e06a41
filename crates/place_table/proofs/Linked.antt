-- By what nodes hang, and the places of one root.
use Rattle.std.proofs.Common.{◌≡◌, ◌+◌, ◌<◌, ℕ, zero, suc, get_or, ◌++◌, ◌∷◌, [], true, false, List, map, take, Option, None, Some, option_map, is_some, length, slice_get, Contains, refl, sym, ap, subst, ◌∙◌, nat_eq, arith, append_assoc}
use Rattle.std.specs.List.{IsDistinct, AllByRecursion}
use Rattle.std.specs.Map.{keys_of, lookup}
use Rattle.std.proofs.lemmas.List.{append-nil, take_more}
use Rattle.std.proofs.Math.Seq.{take-length}
use Rattle.std.proofs.lemmas.Map.Keys.{IsDistinct-cons}
use Rattle.small_map.proofs.Entries.{none_or_some, some_is_one, by_test}
use Rattle.edge_store.specs.declared.edge.EdgeId.{EdgeId}
use Rattle.delta_tree.specs.declared.node.NodeId.{NodeId}
use Rattle.delta_tree.specs.declared.node.Node.{Node}
use Rattle.delta_tree.specs.Nodes.{TreeValue, node_id, node_of, same_node, ids_of, GivesNodes}
use Rattle.delta_tree.specs.Paths.{HangsBelow}
use Rattle.delta_tree.proofs.Ids.{same_node_is, nothing_once, gives_nodes}
use Rattle.place_table.specs.declared.link.Link.{Link}
use Rattle.place_table.specs.declared.spot.Spot.{Spot}
use Rattle.place_table.specs.declared.place.Kept.{Kept}
use Rattle.place_table.specs.Kept.{Placed, with_kept, kept_nodes, kept_at, seen, AreHinted, hint_of}
use Rattle.place_table.specs.Links.{link_of}
use Rattle.place_table.specs.Reading.{edge_kept}
use Rattle.place_table.specs.Sound.{tree_kept}
use Rattle.place_table.specs.Table.{ArePlacesOf, TableValue, node_at, nodes_of, tree_in}
use Rattle.place_table.proofs.Seen.{node_kept, seen_node, seen_nodes, whole_at}

-- ---- links

-- what is kept of a link
abbrev pub link_kept : NodeId → Kept → Link
link_kept id kept = record { parent = node_id kept.from kept.before; edge = edge_kept id kept }

kept_link : (puts : List Spot) (root : ℕ) (id : NodeId) (found : Option Kept) →
    option_map (link_kept id) found
    ≡ option_map (λ (node : Node). link_of node) (node_kept puts root id found)
kept_link puts root id None = refl
kept_link puts root id (Some kept) = refl

pub link_found : (puts : List Spot) (places : List Placed) (root : ℕ) (id : NodeId)
    (found : Option Kept) → found ≡ kept_at places root id →
    option_map (link_kept id) found
    ≡ option_map (λ (node : Node). link_of node) (node_of (tree_kept puts places root) id)
link_found puts places root id found is =
    kept_link puts root id found
    ∙ ap (λ o. option_map (λ (node : Node). link_of node) (node_kept puts root id o)) is
    ∙ ap (option_map (λ (node : Node). link_of node)) (sym (seen_node puts places root id))

kept_there_too : (puts : List Spot) (root : ℕ) (id : NodeId) (found : Option Kept) →
    is_some found ≡ is_some (node_kept puts root id found)
kept_there_too puts root id None = refl
kept_there_too puts root id (Some kept) = refl

pub has_found : (puts : List Spot) (places : List Placed) (root : ℕ) (id : NodeId)
    (found : Option Kept) → found ≡ kept_at places root id →
    is_some found ≡ is_some (node_of (tree_kept puts places root) id)
has_found puts places root id found is =
    kept_there_too puts root id found
    ∙ ap (λ o. is_some (node_kept puts root id o)) is
    ∙ ap (λ o. is_some o) (sym (seen_node puts places root id))

-- the link that the code makes
abbrev made_link : NodeId → Kept → EdgeId → Link
made_link id kept edge = record { parent = node_id kept.from kept.before; edge = edge }

pub link_made : (id : NodeId) (kept : Kept) (edge : EdgeId) → edge ≡ edge_kept id kept →
    Some (made_link id kept edge) ≡ Some (link_kept id kept)
link_made id kept edge is = ap (λ e. Some (made_link id kept e)) is

-- a link is that of a node
pub linked : (found : Option Node) (link : Link) →
    Some link ≡ option_map (λ (node : Node). link_of node) found →
    (node : Node) × (found ≡ Some node) × (link_of node ≡ link)
linked None link is = absurd (none_or_some link (sym is))
linked (Some node) link is = (node, refl, some_is_one (link_of node) link (sym is))

pub not_linked : (found : Option Node) →
    None ≡ option_map (λ (node : Node). link_of node) found → found ≡ None
not_linked None is = refl
not_linked (Some node) is = absurd (none_or_some (link_of node) is)

module _ (tree : TreeValue) (id : NodeId) (link : Link)
    (is : Some link ≡ option_map (λ (node : Node). link_of node) (node_of tree id)) where
  pub below_link : (parent : NodeId) (edge : EdgeId) → link.parent ≡ parent → link.edge ≡ edge →
      HangsBelow tree parent edge id
  below_link parent edge at same =
      let (node, there, its) = linked (node_of tree id) link is in (
        node,
        there,
        ap (λ (l : Link). l.parent) its ∙ at,
        ap (λ (l : Link). l.edge) its ∙ same,
      )

  pub link_below : (parent : NodeId) (edge : EdgeId) → HangsBelow tree parent edge id →
      (link.parent ≡ parent) × (link.edge ≡ edge)
  link_below parent edge (found, at, below, by_edge) =
      let (node, there, its) = linked (node_of tree id) link is in
      let same : node ≡ found = some_is_one node found (sym there ∙ at) in (
        sym (ap (λ (l : Link). l.parent) its) ∙ ap (λ (n : Node). n.parent) same ∙ below,
        sym (ap (λ (l : Link). l.edge) its) ∙ ap (λ (n : Node). n.edge) same ∙ by_edge,
      )

-- ---- the places of one root

keys_whole : (puts : List Spot) (root : ℕ) (nodes : List (NodeId × Kept)) →
    keys_of (map (whole_at puts root) nodes) ≡ keys_of nodes
keys_whole puts root [] = refl
keys_whole puts root (each ∷ nodes) = ap (λ ids. each.0 ∷ ids) (keys_whole puts root nodes)

-- the places of a root are those of what is kept
pub ids_kept : (puts : List Spot) (places : List Placed) (root : ℕ) →
    ids_of (tree_kept puts places root) ≡ keys_of (kept_nodes places root)
ids_kept puts places root = ap (λ l. keys_of l) (seen_nodes puts places root)
    ∙ keys_whole puts root (kept_nodes places root)

-- one of them, by the table that is seen
pub id_found : (puts : List Spot) (places : List Placed) (table whole : TableValue) (k : ℕ)
    (found : Option NodeId) → whole ≡ table → whole.places ≡ seen puts places →
    found ≡ slice_get (keys_of (kept_nodes places whole.root)) k →
    slice_get (ids_of (tree_in table table.root)) k ≡ found
id_found puts places table whole k found same all is =
    ap (λ (each : TableValue). slice_get (ids_of (tree_in each each.root)) k) (sym same)
    ∙ ap (λ l. slice_get (keys_of (nodes_of l whole.root)) k) all
    ∙ ap (λ ids. slice_get ids k) (ids_kept puts places whole.root)
    ∙ sym is

-- each place of a list is that of a node
pub some_behind : {X : Type 0} (nodes : List (NodeId × X)) (k : ℕ) → k < length nodes →
    slice_get (keys_of nodes) k ≡ None → ⊥
some_behind [] k within is = omega (arith, within)
some_behind (first ∷ nodes) zero within is = none_or_some first.0 (sym is)
some_behind (first ∷ nodes) (suc k) within is = some_behind nodes k (omega (arith, within)) is

-- the list of these has each place once
pub places_shown : (puts : List Spot) (places : List Placed) (table : TableValue) (root : ℕ)
    (ids : List NodeId) →
    ((id : NodeId) → node_at table root id ≡ node_of (tree_kept puts places root) id) →
    ids ≡ keys_of (kept_nodes places root) →
    IsDistinct same_node (keys_of (kept_nodes places root)) → ArePlacesOf table root ids
places_shown puts places table root ids at is once = record {
  exact = λ id. (
    (λ has. let (node, there) = (gives.exact id).0
        (subst (λ l. Contains l id) (is ∙ sym keys) has) in
        (node, at id ∙ there)),
    (λ (node, there). subst (λ l. Contains l id) (sym (is ∙ sym keys))
        ((gives.exact id).1 (node, sym (at id) ∙ there))),
  );
  once = subst (IsDistinct same_node) (sym is) once;
}
  where
    keys : ids_of (tree_kept puts places root) ≡ keys_of (kept_nodes places root)
    keys = ids_kept puts places root

    gives : GivesNodes (tree_kept puts places root)
    gives = gives_nodes (tree_kept puts places root)
        (subst (IsDistinct same_node) (sym keys) once)

-- ---- each place stands once

-- no two places are one
abbrev AreApart : List Placed → Type 0
AreApart places = (j k : ℕ) (one other : Placed) → slice_get places j ≡ Some one →
    slice_get places k ≡ Some other → same_node one.id other.id ≡ true → j ≡ k

others_apart : (id : NodeId) (places : List Placed) (root : ℕ) →
    ((k : ℕ) (each : Placed) → slice_get places k ≡ Some each → same_node id each.id ≡ false) →
    AllByRecursion (λ each. same_node id each ≡ false) (keys_of (kept_nodes places root))
others_apart id [] root apart = tt
others_apart id (first ∷ places) root apart = by (lookup (nat_eq root) first.nodes)
    (others_apart id places root (λ k each at. apart (suc k) each at)) (apart zero first refl)
  where
    by : (found : Option Kept) →
        AllByRecursion (λ each. same_node id each ≡ false) (keys_of (kept_nodes places root)) →
        same_node id first.id ≡ false →
        AllByRecursion (λ each. same_node id each ≡ false)
        (keys_of (with_kept first.id found (kept_nodes places root)))
    by None rest own = rest
    by (Some kept) rest own = (own, rest)

nodes_once : (places : List Placed) (root : ℕ) → AreApart places →
    IsDistinct same_node (keys_of (kept_nodes places root))
nodes_once [] root apart = nothing_once
nodes_once (first ∷ places) root apart = by (lookup (nat_eq root) first.nodes)
    (nodes_once places root (λ j k one other at there same.
    omega (arith, apart (suc j) (suc k) one other at there same)))
    (others_apart first.id places root (λ k each at. by_test (same_node first.id each.id)
    (λ same. absurd (omega (arith, apart zero (suc k) first each refl at same)))
    (λ no. no)))
  where
    by : (found : Option Kept) → IsDistinct same_node (keys_of (kept_nodes places root)) →
        AllByRecursion (λ each. same_node first.id each ≡ false)
        (keys_of (kept_nodes places root)) →
        IsDistinct same_node (keys_of (with_kept first.id found (kept_nodes places root)))
    by None rest others = rest
    by (Some kept) rest others =
        IsDistinct-cons same_node first.id (keys_of (kept_nodes places root)) others rest

pub places_once : (rows : List (List (ℕ × ℕ))) (places : List Placed) (root : ℕ) →
    AreHinted rows places → IsDistinct same_node (keys_of (kept_nodes places root))
places_once rows places root hinted = nodes_once places root (λ j k one other at there same.
    some_is_one j k (sym (hinted j one at)
    ∙ ap (hint_of rows) (same_node_is one.id other.id same) ∙ hinted k other there))

-- ---- one place more was looked at

kept_more : (places : List Placed) (one : Placed) (root : ℕ) →
    keys_of (kept_nodes (places ++ one ∷ []) root)
    ≡ keys_of (kept_nodes places root)
    ++ keys_of (with_kept one.id (lookup (nat_eq root) one.nodes) [])
kept_more [] one root = refl
kept_more (first ∷ places) one root = by (lookup (nat_eq root) first.nodes) (kept_more places one root)
  where
    by : (found : Option Kept) → keys_of (kept_nodes (places ++ one ∷ []) root)
        ≡ keys_of (kept_nodes places root)
        ++ keys_of (with_kept one.id (lookup (nat_eq root) one.nodes) []) →
        keys_of (with_kept first.id found (kept_nodes (places ++ one ∷ []) root))
        ≡ keys_of (with_kept first.id found (kept_nodes places root))
        ++ keys_of (with_kept one.id (lookup (nat_eq root) one.nodes) [])
    by None rest = rest
    by (Some kept) rest = ap (λ l. first.id ∷ l) rest

pub ids_more : (places : List Placed) (first now new : List NodeId) (k : ℕ) (one : Placed)
    (root : ℕ) → now ≡ first ++ keys_of (kept_nodes (take k places) root) → k < length places →
    one ≡ get_or places k one →
    new ≡ now ++ keys_of (with_kept one.id (lookup (nat_eq root) one.nodes) []) →
    new ≡ first ++ keys_of (kept_nodes (take (k + 1) places) root)
ids_more places first now new k one root before within read is =
    is ∙ ap (λ l. l ++ keys_of (with_kept one.id (lookup (nat_eq root) one.nodes) [])) before
    ∙ append_assoc first (keys_of (kept_nodes (take k places) root))
    (keys_of (with_kept one.id (lookup (nat_eq root) one.nodes) []))
    ∙ ap (λ l. first ++ l) (sym (kept_more (take k places) one root)
    ∙ ap (λ l. keys_of (kept_nodes l root))
    (ap (λ p. take k places ++ p ∷ []) read ∙ sym (take_more places k one within)))

pub ids_all : (places : List Placed) (first now : List NodeId) (k : ℕ) (root : ℕ) →
    now ≡ first ++ keys_of (kept_nodes (take k places) root) → k ≡ length places →
    now ≡ first ++ keys_of (kept_nodes places root)
ids_all places first now k root is all =
    is ∙ ap (λ l. first ++ keys_of (kept_nodes l root))
    (ap (λ n. take n places) all ∙ take-length places)

-- a place without the root, and one with it
pub no_id : (ids : List NodeId) (id : NodeId) (found : Option Kept) → None ≡ found →
    ids ≡ ids ++ keys_of (with_kept id found [])
no_id ids id found is =
    sym (append-nil ids) ∙ ap (λ o. ids ++ keys_of (with_kept id o [])) is

pub one_id : (ids new : List NodeId) (id own : NodeId) (found : Option Kept) (kept : Kept) →
    Some kept ≡ found → own ≡ id → new ≡ ids ++ own ∷ [] →
    new ≡ ids ++ keys_of (with_kept id found [])
one_id ids new id own found kept there same is =
    is ∙ ap (λ each. ids ++ each ∷ []) same
    ∙ ap (λ o. ids ++ keys_of (with_kept id o [])) there
