-- A tree that is shown, and what there is beside it.
use Rattle.std.proofs.Common.{◌≡◌, ℕ, Bool, true, false, cond, ◌∷◌, [], List, All, Contains, None, Some, option_map, refl, sym, ap, subst, ◌∙◌, true≢false, nat_eq, length, arith}
use Rattle.std.specs.List.{IsDistinct, list_any}
use Rattle.std.proofs.lemmas.Bool.{eqb-true}
use Rattle.std.proofs.lemmas.List.Elements.{All-nil, All-cons, Contains-append_right}
use Rattle.std.proofs.lemmas.Map.Views.{Contains-from_any, list_any-from_Contains}
use Rattle.small_map.proofs.Entries.{none_or_some, by_test}
use Rattle.due_queue.specs.declared.due.Due.{Due}
use Rattle.edge_store.specs.declared.edge.EdgeId.{EdgeId}
use Rattle.delta_tree.specs.declared.node.NodeId.{NodeId}
use Rattle.delta_tree.specs.declared.node.Node.{Node}
use Rattle.delta_tree.specs.Nodes.{TreeValue, node_of, same_node, IsTree}
use Rattle.delta_tree.specs.Paths.{IsBelow}
use Rattle.delta_tree.specs.Changes.{AreBelow, AreShifts, Cuts, IsShift, shift_ids}
use Rattle.delta_tree.specs.Losses.{loss, losses}
use Rattle.delta_tree.proofs.Ids.{same_node_is, same_node_laws}
use Rattle.delta_tree.proofs.Trees.{cut_keeps}
use Rattle.place_table.specs.declared.spot.Spot.{Spot}
use Rattle.place_table.specs.declared.place.Kept.{Kept}
use Rattle.place_table.specs.Kept.{Placed, kept_at, seen}
use Rattle.place_table.specs.Links.{nodes_beside, IsSameBesideShown, KeepsKept}
use Rattle.place_table.specs.Queue.{AreNoted}
use Rattle.place_table.specs.Sound.{tree_kept, AreTrees, IsSound}
use Rattle.place_table.specs.Table.{TableValue, tree_in, node_at}
use Rattle.place_table.proofs.Entered.{number_same}
use Rattle.place_table.proofs.Seen.{node_kept, seen_node, alike_tree}

-- ---- nodes below an edge

-- the nodes below the edge, taken out
pub all_cut : (old new : TreeValue) (edge : EdgeId) (ids : List NodeId) → AreBelow old edge ids →
    ((id : NodeId) → node_of new id ≡ cond (list_any (same_node id) ids) None (node_of old id)) →
    Cuts old new edge
all_cut old new edge ids below taken = record {
  gone = λ id is.
      taken id
      ∙ ap (λ b. cond b None (node_of old id))
      (list_any-from_Contains same_node_laws id ids ((below.exact id).1 is));
  kept = λ id free. taken id ∙ by id free (list_any (same_node id) ids) refl;
}
  where
    by : (id : NodeId) → (IsBelow old edge id → ⊥) → (b : Bool) → list_any (same_node id) ids ≡ b →
        cond b None (node_of old id) ≡ node_of old id
    by id free true has =
        absurd (free ((below.exact id).0 (Contains-from_any same_node_is id ids has)))
    by id free false none = refl

-- the places of the losses
pub ids_of_losses : (nodes : List (NodeId × Node)) (ids : List NodeId) →
    shift_ids (losses nodes ids) ≡ ids
ids_of_losses nodes [] = refl
ids_of_losses nodes (id ∷ ids) = ap (λ (rest : List NodeId). id ∷ rest) (ids_of_losses nodes ids)

lost_values : (old new : TreeValue) (ids : List NodeId) →
    ((id : NodeId) → Contains ids id → node_of new id ≡ None) →
    All (IsShift old new) (losses old.nodes ids)
lost_values old new [] gone = All-nil (IsShift old new)
lost_values old new (id ∷ ids) gone =
    All-cons (IsShift old new)
    (loss id (option_map (λ (node : Node). node.value) (node_of old id))) (losses old.nodes ids)
    (record {
      before = refl;
      after = ap (option_map (λ (node : Node). node.value)) (gone id (0, omega arith, refl));
    })
    (lost_values old new ids
    (λ each has. gone each (Contains-append_right (id ∷ []) ids each has)))

-- they are all that a cut changes
pub cut_shifts : (old new : TreeValue) (edge : EdgeId) (ids : List NodeId) →
    AreBelow old edge ids → Cuts old new edge → AreShifts old new (losses old.nodes ids)
cut_shifts old new edge ids below cuts = record {
  values = lost_values old new ids (λ id has. cuts.gone id ((below.exact id).0 has));
  once = subst (IsDistinct same_node) (sym (ids_of_losses old.nodes ids)) below.once;
  others = λ id free. cuts.kept id (λ is. free (subst (λ (list : List NodeId). Contains list id)
      (sym (ids_of_losses old.nodes ids)) ((below.exact id).1 is)));
}

-- ---- one root's nodes are fewer

module _ (puts : List Spot) (old new : List Placed) (root : ℕ) (others : KeepsKept old new root) where
  pub others_seen : (other : ℕ) → (root ≡ other → ⊥) → (id : NodeId) →
      node_of (tree_kept puts new other) id ≡ node_of (tree_kept puts old other) id
  others_seen other apart id =
      seen_node puts new other id ∙ ap (node_kept puts other id) (others other apart id)
      ∙ sym (seen_node puts old other id)

  -- the own nodes that are left stood there
  pub noted_left : (dues : List (Due Spot)) → AreNoted old dues →
      ((id : NodeId) (kept : Kept) → kept_at new root id ≡ Some kept →
      kept_at old root id ≡ Some kept) → AreNoted new dues
  noted_left dues noted own each id kept is = noted each id kept (by_test (nat_eq root each)
      (λ same. subst (λ r. kept_at old r id ≡ Some kept) (eqb-true root each same)
      (own id kept (ap (λ r. kept_at new r id) (eqb-true root each same) ∙ is)))
      (λ apart. sym (others each (λ same. true≢false (sym (number_same root each same) ∙ apart)) id)
      ∙ is))

  pub trees_left : AreTrees puts old → IsTree (tree_kept puts new root) → AreTrees puts new
  trees_left trees own other = by_test (nat_eq root other)
      (λ same. subst (λ r. IsTree (tree_kept puts new r)) (eqb-true root other same) own)
      (λ apart. alike_tree (tree_kept puts old other) (tree_kept puts new other) (trees other) refl
      (omega arith)
      (others_seen other (λ same. true≢false (sym (number_same root other same) ∙ apart))))

  module _ (ids : List NodeId) (own : (id : NodeId) → kept_at new root id
      ≡ cond (list_any (same_node id) ids) None (kept_at old root id)) where
    own_seen : (id : NodeId) → node_of (tree_kept puts new root) id
        ≡ cond (list_any (same_node id) ids) None (node_of (tree_kept puts old root) id)
    own_seen id =
        seen_node puts new root id ∙ ap (node_kept puts root id) (own id)
        ∙ by_test (list_any (same_node id) ids)
        (λ has. ap (λ b. node_kept puts root id (cond b None (kept_at old root id))) has
        ∙ sym (ap (λ b. cond b None (node_of (tree_kept puts old root) id)) has))
        (λ none. ap (λ b. node_kept puts root id (cond b None (kept_at old root id))) none
        ∙ sym (seen_node puts old root id)
        ∙ sym (ap (λ b. cond b None (node_of (tree_kept puts old root) id)) none))

    pub cuts_seen : (edge : EdgeId) → AreBelow (tree_kept puts old root) edge ids →
        Cuts (tree_kept puts old root) (tree_kept puts new root) edge
    cuts_seen edge below =
        all_cut (tree_kept puts old root) (tree_kept puts new root) edge ids below own_seen

    pub cut_sound : (edge : EdgeId) (dues : List (Due Spot)) →
        AreBelow (tree_kept puts old root) edge ids → IsSound puts old dues → IsSound puts new dues
    cut_sound edge dues below sound = record {
      trees = trees_left sound.trees
          (cut_keeps (tree_kept puts old root) (tree_kept puts new root) edge (sound.trees root)
          (cuts_seen edge below) (record { root = refl; puts = refl }));
      noted = noted_left dues sound.noted left;
    }
      where
        left : (id : NodeId) (kept : Kept) → kept_at new root id ≡ Some kept →
            kept_at old root id ≡ Some kept
        left id kept is = by (list_any (same_node id) ids) (sym (own id) ∙ is)
          where
            by : (b : Bool) → cond b None (kept_at old root id) ≡ Some kept →
                kept_at old root id ≡ Some kept
            by true none = absurd (none_or_some kept none)
            by false same = same

  pub none_sound : (dues : List (Due Spot)) → ((id : NodeId) → kept_at new root id ≡ None) →
      IsSound puts old dues → IsSound puts new dues
  none_sound dues none sound = record {
    trees = trees_left sound.trees (λ id node is. absurd (none_or_some node
        (sym (seen_node puts new root id ∙ ap (node_kept puts root id) (none id)) ∙ is)));
    noted = noted_left dues sound.noted
        (λ id kept is. absurd (none_or_some kept (sym (none id) ∙ is)));
  }

-- ---- what is shown

-- a table that keeps this
abbrev pub table_kept : ℕ → List Spot → List Placed → List NodeId → TableValue
table_kept root puts places marked = record {
  root = root;
  places = seen puts places;
  puts = length puts;
  marked = marked;
}

pub beside_kept : (root : ℕ) (puts : List Spot) (old new : List Placed) (marked : List NodeId) →
    KeepsKept old new root →
    IsSameBesideShown (table_kept root puts old marked) (table_kept root puts new marked)
beside_kept root puts old new marked others = record {
  root = refl;
  puts = refl;
  others = λ other apart id. others_seen puts old new root others other apart id;
}

pub none_shown : (puts : List Spot) (places : List Placed) (root : ℕ) (id : NodeId) →
    kept_at places root id ≡ None → node_of (tree_kept puts places root) id ≡ None
none_shown puts places root id none =
    seen_node puts places root id ∙ ap (node_kept puts root id) none

-- what is beside the tree that is shown stays
pub beside_same : (old new : TableValue) → new.root ≡ old.root →
    ((other : ℕ) → (old.root ≡ other → ⊥) → (id : NodeId) →
    node_at new other id ≡ node_at old other id) →
    nodes_beside new ≡ nodes_beside old
beside_same old new shown others i root id = at root id i
  where
    at : (root : ℕ) (id : NodeId) → nodes_beside new root id ≡ nodes_beside old root id
    at root id =
        ap (λ r. cond (nat_eq root r) None (node_at new root id)) shown
        ∙ by_test (nat_eq root old.root)
        (λ same. ap (λ b. cond b None (node_at new root id)) same
        ∙ sym (ap (λ b. cond b None (node_at old root id)) same))
        (λ apart. ap (λ found. cond (nat_eq root old.root) None found)
        (others root (λ same. true≢false
        (sym (number_same root old.root (sym same)) ∙ apart)) id))

-- what a change of this root is, it is of the tree that is shown
pub both_shown : (holds : TreeValue → TreeValue → Type 0) (old new : TableValue) (root : ℕ) →
    root ≡ old.root → new.root ≡ old.root → holds (tree_in old root) (tree_in new root) →
    holds (tree_in old old.root) (tree_in new new.root)
both_shown holds old new root is shown change =
    subst (λ r. holds (tree_in old old.root) (tree_in new r)) (sym shown)
    (subst (λ r. holds (tree_in old r) (tree_in new r)) is change)

-- the other roots are those beside it
pub others_shown : (old new : TableValue) (root : ℕ) → root ≡ old.root →
    ((other : ℕ) → (root ≡ other → ⊥) → (id : NodeId) →
    node_at new other id ≡ node_at old other id) →
    (other : ℕ) → (old.root ≡ other → ⊥) → (id : NodeId) →
    node_at new other id ≡ node_at old other id
others_shown old new root is others other apart =
    others other (λ same. apart (sym is ∙ same))

-- a table of the same trees
pub same_shown : (old new : TableValue) → new.root ≡ old.root →
    ((each : ℕ) → tree_in new each ≡ tree_in old each) →
    tree_in new new.root ≡ tree_in old old.root
same_shown old new shown same = ap (tree_in new) shown ∙ same old.root
