-- An expiry, as callers of a table see it.
use Rattle.std.proofs.Common.{◌≡◌, ℕ, cond, nat_lt, List, Option, None, Some, refl, sym, ap, subst, ◌∙◌, arith}
use Rattle.small_map.proofs.Entries.{none_or_some, some_is_one, by_test}
use Rattle.due_queue.specs.declared.due.Due.{Due}
use Rattle.due_queue.specs.Queue.{AllAbove}
use Rattle.delta_tree.specs.declared.node.NodeId.{NodeId}
use Rattle.delta_tree.specs.declared.node.Node.{Node}
use Rattle.delta_tree.specs.Nodes.{TreeValue, node_of, IsTree}
use Rattle.delta_tree.specs.Changes.{living, Expires}
use Rattle.delta_tree.proofs.Trees.{expire_keeps}
use Rattle.place_table.specs.declared.gain.Lost.{Lost}
use Rattle.place_table.specs.declared.spot.Spot.{Spot}
use Rattle.place_table.specs.declared.place.Kept.{Kept}
use Rattle.place_table.specs.Kept.{Placed, kept_at, whole, stamp_of}
use Rattle.place_table.specs.Losses.{IsLostBy, AreLostBy}
use Rattle.place_table.specs.Queue.{AreNoted, alive, spot}
use Rattle.place_table.specs.Sound.{tree_kept, AreTrees, IsSound}
use Rattle.place_table.specs.Table.{TableValue, tree_in, node_at}
use Rattle.place_table.proofs.Seen.{node_kept, seen_node}
use Rattle.place_table.proofs.Expiry.{IsExpiring, AreTold, WasDue, all_alive, all_told}

-- what lives of a node is what lives of what is kept of it
living_kept : (puts : List Spot) (root : ℕ) (id : NodeId) (now : ℕ) (found : Option Kept) →
    node_kept puts root id (alive now found) ≡ living now (node_kept puts root id found)
living_kept puts root id now None = refl
living_kept puts root id now (Some kept) = by_test (nat_lt now kept.value)
    (λ is. ap (λ b. node_kept puts root id (cond b (Some kept) None)) is
    ∙ sym (ap (λ b. cond b (Some (whole id kept (stamp_of puts root id))) None) is))
    (λ is. ap (λ b. node_kept puts root id (cond b (Some kept) None)) is
    ∙ sym (ap (λ b. cond b (Some (whole id kept (stamp_of puts root id))) None) is))

node_back : (puts : List Spot) (root : ℕ) (id : NodeId) (found : Option Kept) (node : Node) →
    node_kept puts root id found ≡ Some node →
    (kept : Kept) × (found ≡ Some kept) × (kept.value ≡ node.value)
node_back puts root id None node is = absurd (none_or_some node is)
node_back puts root id (Some kept) node is = (
  kept,
  refl,
  ap (λ (n : Node). n.value) (some_is_one (whole id kept (stamp_of puts root id)) node is),
)

module _ (puts : List Spot) (now : ℕ) (old new : List Placed) (dues : List (Due Spot))
    (expiring : IsExpiring now old new dues) (later : AllAbove now dues) where
  -- each tree expired
  pub trees_expire : (root : ℕ) → Expires (tree_kept puts old root) (tree_kept puts new root) now
  trees_expire root id =
      seen_node puts new root id
      ∙ ap (node_kept puts root id) (all_alive now old new dues expiring later (spot root id))
      ∙ living_kept puts root id now (kept_at old root id)
      ∙ ap (living now) (sym (seen_node puts old root id))

  pub sound_after : AreTrees puts old → (after : List Spot) (last : List (Due Spot)) → after ≡ puts →
      last ≡ dues → IsSound after new last
  sound_after trees after last same left = record {
    trees = λ root. subst (λ p. IsTree (tree_kept p new root)) (sym same)
        (expire_keeps (tree_kept puts old root) (tree_kept puts new root) now (trees root)
        (trees_expire root) (record { root = refl; puts = refl }));
    noted = subst (AreNoted new) (sym left)
        (λ root id kept is. expiring.noted (spot root id) kept is);
  }

  -- and the list has what was lost
  pub lost_after : (table : TableValue) (all : List Lost) →
      ((root : ℕ) → tree_in table root ≡ tree_kept puts old root) → AreTold now old new all →
      AreLostBy table now all
  lost_after table all is told =
      let (exact, once) = all_told now old new all told
      (λ one. all_alive now old new dues expiring later one) in
      record {
        exact = λ lost. (
          (λ has. seen_lost lost ((exact lost).0 has)),
          (λ lost_by. (exact lost).1 (back lost lost_by)),
        );
        once = once;
      }
    where
      at : (lost : Lost) → node_at table lost.root lost.id
          ≡ node_kept puts lost.root lost.id (kept_at old lost.root lost.id)
      at lost = ap (λ (tree : TreeValue). node_of tree lost.id) (is lost.root)
          ∙ seen_node puts old lost.root lost.id

      seen_lost : (lost : Lost) → WasDue old now lost → IsLostBy table now lost
      seen_lost lost (kept, there, same, reached) = (
        whole lost.id kept (stamp_of puts lost.root lost.id),
        at lost ∙ ap (node_kept puts lost.root lost.id) there,
        same,
        reached,
      )

      back : (lost : Lost) → IsLostBy table now lost → WasDue old now lost
      back lost (node, there, same, reached) =
          let (kept, found, value) = node_back puts lost.root lost.id
          (kept_at old lost.root lost.id) node (sym (at lost) ∙ there) in
          (kept, found, value ∙ same, omega (arith, value, reached))
