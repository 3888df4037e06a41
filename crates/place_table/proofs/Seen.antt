-- The nodes of a tree, by what is kept of them.
use Rattle.std.proofs.Common.{◌≡◌, ◌+◌, ◌≤◌, ◌<◌, ◌^◌, ℕ, inl, inr, ◌++◌, ◌∷◌, [], Bool, true, false, cond, ◌&&◌, List, map, Option, None, Some, option_map, length, refl, sym, ap, subst, ◌∙◌, true≢false, nat_eq, arith}
use Rattle.std.specs.Map.{lookup}
use Rattle.std.proofs.lemmas.Bool.{eqb-true}
use Rattle.small_map.proofs.Entries.{by_test}
use Rattle.delta_tree.specs.declared.node.NodeId.{NodeId}
use Rattle.delta_tree.specs.declared.node.Node.{Node}
use Rattle.delta_tree.specs.declared.node.Try.{Try}
use Rattle.delta_tree.specs.Nodes.{node_id, TreeValue, node_of, value_of, same_node, Joins, HasParent, IsTree}
use Rattle.delta_tree.specs.Changes.{Carries, Raises, Puts, put_node}
use Rattle.delta_tree.proofs.Ids.{same_node_is, same_node_laws}
use Rattle.delta_tree.proofs.Trees.{put_keeps}
use Rattle.place_table.proofs.Entered.{number_laws, number_same}
use Rattle.place_table.specs.declared.spot.Spot.{Spot}
use Rattle.place_table.specs.declared.place.Kept.{Kept}
use Rattle.place_table.specs.Kept.{Placed, with_kept, kept_nodes, kept_at, same_spot, PutsAt, KeepSame, last_put, stamp_of, whole, seen}
use Rattle.place_table.specs.Queue.{spot}
use Rattle.place_table.specs.Sound.{tree_kept, AreTrees}
use Rattle.place_table.specs.Table.{with_node, nodes_of}

-- ---- what is seen

-- the node of a root that stands at a place
abbrev pub node_kept : List Spot → ℕ → NodeId → Option Kept → Option Node
node_kept puts root id found =
    option_map (λ (kept : Kept). whole id kept (stamp_of puts root id)) found

-- each with its place
abbrev whole_here : List Spot → NodeId → ℕ × Kept → ℕ × Node
whole_here puts id each = (each.0, whole id each.1 (stamp_of puts each.0 id))

seen_here : (puts : List Spot) (id : NodeId) (nodes : List (ℕ × Kept)) (root : ℕ) →
    lookup (nat_eq root) (map (whole_here puts id) nodes)
    ≡ node_kept puts root id (lookup (nat_eq root) nodes)
seen_here puts id [] root = refl
seen_here puts id (each ∷ nodes) root = by_test (nat_eq root each.0)
    (λ same. ap (λ b. cond b (Some (whole id each.1 (stamp_of puts each.0 id)))
    (lookup (nat_eq root) (map (whole_here puts id) nodes))) same
    ∙ ap (λ r. Some (whole id each.1 (stamp_of puts r id))) (sym (eqb-true root each.0 same))
    ∙ sym (ap (λ b. node_kept puts root id (cond b (Some each.1) (lookup (nat_eq root) nodes))) same))
    (λ apart. ap (λ b. cond b (Some (whole id each.1 (stamp_of puts each.0 id)))
    (lookup (nat_eq root) (map (whole_here puts id) nodes))) apart
    ∙ seen_here puts id nodes root
    ∙ sym (ap (λ b. node_kept puts root id (cond b (Some each.1) (lookup (nat_eq root) nodes))) apart))

-- the nodes of a root are those that are kept
abbrev pub whole_at : List Spot → ℕ → NodeId × Kept → NodeId × Node
whole_at puts root each = (each.0, whole each.0 each.1 (stamp_of puts root each.0))

with_seen : (puts : List Spot) (root : ℕ) (id : NodeId) (found : Option Kept)
    (rest : List (NodeId × Kept)) →
    with_node id (node_kept puts root id found) (map (whole_at puts root) rest)
    ≡ map (whole_at puts root) (with_kept id found rest)
with_seen puts root id None rest = refl
with_seen puts root id (Some kept) rest = refl

pub seen_nodes : (puts : List Spot) (places : List Placed) (root : ℕ) →
    nodes_of (seen puts places) root ≡ map (whole_at puts root) (kept_nodes places root)
seen_nodes puts [] root = refl
seen_nodes puts (place ∷ places) root =
    (λ i. with_node place.id (seen_here puts place.id place.nodes root i)
    (seen_nodes puts places root i))
    ∙ with_seen puts root place.id (lookup (nat_eq root) place.nodes) (kept_nodes places root)

looked_whole : (puts : List Spot) (root : ℕ) (nodes : List (NodeId × Kept)) (id : NodeId) →
    lookup (same_node id) (map (whole_at puts root) nodes)
    ≡ node_kept puts root id (lookup (same_node id) nodes)
looked_whole puts root [] id = refl
looked_whole puts root (each ∷ nodes) id = by_test (same_node id each.0)
    (λ same. ap (λ b. cond b (Some (whole each.0 each.1 (stamp_of puts root each.0)))
    (lookup (same_node id) (map (whole_at puts root) nodes))) same
    ∙ ap (λ at. Some (whole at each.1 (stamp_of puts root at))) (sym (same_node_is id each.0 same))
    ∙ sym (ap (λ b. node_kept puts root id (cond b (Some each.1) (lookup (same_node id) nodes))) same))
    (λ apart. ap (λ b. cond b (Some (whole each.0 each.1 (stamp_of puts root each.0)))
    (lookup (same_node id) (map (whole_at puts root) nodes))) apart
    ∙ looked_whole puts root nodes id
    ∙ sym (ap (λ b. node_kept puts root id (cond b (Some each.1) (lookup (same_node id) nodes))) apart))

-- the node of a root at a place is the one that is kept there
pub seen_node : (puts : List Spot) (places : List Placed) (root : ℕ) (id : NodeId) →
    node_of (tree_kept puts places root) id ≡ node_kept puts root id (kept_at places root id)
seen_node puts places root id =
    ap (lookup (same_node id)) (seen_nodes puts places root)
    ∙ looked_whole puts root (kept_nodes places root) id

value_kept : (puts : List Spot) (root : ℕ) (id : NodeId) (found : Option Kept) →
    option_map (λ (node : Node). node.value) (node_kept puts root id found)
    ≡ option_map (λ (kept : Kept). kept.value) found
value_kept puts root id None = refl
value_kept puts root id (Some kept) = refl

-- its value
pub seen_value : (puts : List Spot) (places : List Placed) (root : ℕ) (id : NodeId) →
    value_of (tree_kept puts places root) id
    ≡ option_map (λ (kept : Kept). kept.value) (kept_at places root id)
seen_value puts places root id =
    ap (option_map (λ (node : Node). node.value)) (seen_node puts places root id)
    ∙ value_kept puts root id (kept_at places root id)

-- a tree of these nodes
abbrev tree_of : List Spot → ℕ → List (NodeId × Node) → TreeValue
tree_of puts root nodes = record { root = root; nodes = nodes; puts = length puts }

-- where the same is kept, the same is seen
pub seen_same : (puts : List Spot) (old new : List Placed) → KeepSame old new → (root : ℕ) →
    tree_kept puts new root ≡ tree_kept puts old root
seen_same puts old new same root =
    ap (tree_of puts root)
    (seen_nodes puts new root ∙ ap (map (whole_at puts root)) (same root)
    ∙ sym (seen_nodes puts old root))

-- ---- one put more

last_more : (count found : ℕ) (puts : List Spot) (one : Spot) (root : ℕ) (id : NodeId) →
    last_put count found (puts ++ one ∷ []) root id
    ≡ cond (same_spot one.root one.id root id) (count + length puts)
    (last_put count found puts root id)
last_more count found [] one root id =
    ap (λ n. cond (same_spot one.root one.id root id) n found) (omega arith)
last_more count found (first ∷ puts) one root id =
    last_more (count + 1) (cond (same_spot first.root first.id root id) count found) puts one root id
    ∙ ap (λ n. cond (same_spot one.root one.id root id) n
    (last_put (count + 1) (cond (same_spot first.root first.id root id) count found) puts root id))
    (omega arith)

stamp_more : (puts : List Spot) (one : Spot) (root : ℕ) (id : NodeId) →
    stamp_of (puts ++ one ∷ []) root id
    ≡ cond (same_spot one.root one.id root id) (length puts) (stamp_of puts root id)
stamp_more puts one root id =
    last_more 0 0 puts one root id
    ∙ ap (λ n. cond (same_spot one.root one.id root id) n (stamp_of puts root id)) (omega arith)

pub one_more : (puts : List Spot) (one : Spot) → length (puts ++ one ∷ []) ≡ length puts + 1
one_more [] one = refl
one_more (first ∷ puts) one = omega (arith, one_more puts one)

both : (a b : Bool) → (a && b) ≡ true → (a ≡ true) × (b ≡ true)
both true b is = (refl, is)
both false b is = absurd (true≢false (sym is))

-- the same spot is one
pub same_spot_is : (root : ℕ) (id : NodeId) (each : ℕ) (at : NodeId) →
    same_spot root id each at ≡ true → (root ≡ each) × (id ≡ at)
same_spot_is root id each at same =
    let (roots, ids) = both (nat_eq root each) (same_node id at) same in
    (eqb-true root each roots, same_node_is id at ids)

pub same_spot_itself : (root : ℕ) (id : NodeId) → same_spot root id root id ≡ true
same_spot_itself root id = λ i. number_laws.refl root i && same_node_laws.refl id i

-- after a put the node is there, and each other one as it was
pub put_seen : (puts : List Spot) (old new : List Placed) (root : ℕ) (id : NodeId) (kept : Kept) →
    PutsAt old new root id (Some kept) → (each : ℕ) (at : NodeId) →
    node_of (tree_kept (puts ++ spot root id ∷ []) new each) at
    ≡ cond (same_spot root id each at) (Some (whole id kept (length puts)))
    (node_of (tree_kept puts old each) at)
put_seen puts old new root id kept update each at =
    seen_node (puts ++ spot root id ∷ []) new each at
    ∙ (λ i. option_map (λ (k : Kept). whole at k (stamp_more puts (spot root id) each at i))
    (update each at i))
    ∙ by_test (same_spot root id each at)
    (λ same. ap (λ b. option_map (λ (k : Kept).
    whole at k (cond b (length puts) (stamp_of puts each at)))
    (cond b (Some kept) (kept_at old each at))) same
    ∙ ap (λ place. Some (whole place kept (length puts)))
    (sym (same_spot_is root id each at same).1)
    ∙ sym (ap (λ b. cond b (Some (whole id kept (length puts)))
    (node_of (tree_kept puts old each) at)) same))
    (λ apart. ap (λ b. option_map (λ (k : Kept).
    whole at k (cond b (length puts) (stamp_of puts each at)))
    (cond b (Some kept) (kept_at old each at))) apart
    ∙ sym (seen_node puts old each at)
    ∙ sym (ap (λ b. cond b (Some (whole id kept (length puts)))
    (node_of (tree_kept puts old each) at)) apart))

-- ---- trees

-- a tree with the same nodes, and maybe more puts
pub alike_tree : (old new : TreeValue) → IsTree old → new.root ≡ old.root → old.puts ≤ new.puts →
    ((id : NodeId) → node_of new id ≡ node_of old id) → IsTree new
alike_tree old new kept root puts same id node is =
    let before = kept id node (sym (same id) ∙ is) in
    record {
      parent = by before.parent;
      joins = before.joins;
      state = before.state;
      value = before.value;
      stamp = omega (arith, before.stamp, puts);
    }
  where
    by : HasParent old node → HasParent new node
    by (inl at) = inl (at ∙ sym (ap (λ r. node_id r 0) root))
    by (inr (parent, there, before)) = inr (parent, same node.parent ∙ there, before)

-- the node that is kept of a step
pub whole_put : (tree : TreeValue) (step : Try) (value : ℕ) (kept : Kept) →
    Joins step.from step.edge step.to → kept.value ≡ value → kept.from ≡ step.from.vertex →
    kept.label ≡ step.edge.label → kept.before ≡ step.from.state →
    whole step.to kept tree.puts ≡ put_node tree step value
whole_put tree step value kept joins same_value from label before = λ i. record {
  value = same_value i;
  parent = record { vertex = from i; state = before i };
  edge = record {
    from = (from ∙ sym joins.leaves) i;
    label = label i;
    to = sym joins.ends i;
  };
  stamp = tree.puts;
}

module _ (puts : List Spot) (old new : List Placed) (root : ℕ) (step : Try) (value : ℕ)
    (kept : Kept) (trees : AreTrees puts old)
    (update : PutsAt old new root step.to (Some kept))
    (is : whole step.to kept (length puts) ≡ put_node (tree_kept puts old root) step value) where
  abbrev more : List Spot
  more = puts ++ spot root step.to ∷ []

  -- the step's root
  pub put_own : Puts (tree_kept puts old root) (tree_kept more new root) step.to
      (put_node (tree_kept puts old root) step value)
  put_own each =
      put_seen puts old new root step.to kept update root each
      ∙ (λ i. cond (number_laws.refl root i && same_node step.to each) (Some (is i))
      (node_of (tree_kept puts old root) each))

  -- each other root
  pub put_others : (other : ℕ) → (root ≡ other → ⊥) → (at : NodeId) →
      node_of (tree_kept more new other) at ≡ node_of (tree_kept puts old other) at
  put_others other apart at =
      put_seen puts old new root step.to kept update other at
      ∙ by_test (same_spot root step.to other at)
      (λ same. absurd (apart (same_spot_is root step.to other at same).0))
      (λ no_one. ap (λ b. cond b (Some (whole step.to kept (length puts)))
      (node_of (tree_kept puts old other) at)) no_one)

  -- all trees are trees still
  pub put_trees : Raises (tree_kept puts old root) step.to value →
      Carries (tree_kept puts old root) step.from value → 0 < step.to.state →
      Joins step.from step.edge step.to → value < 2 ^ 64 → AreTrees more new
  put_trees raises carries state joins fits other = by_test (nat_eq root other)
      (λ same. subst (λ r. IsTree (tree_kept more new r)) (eqb-true root other same)
      (put_keeps (tree_kept puts old root) (tree_kept more new root) step value (trees root) raises
      put_own refl (one_more puts (spot root step.to)) carries state joins fits))
      (λ apart. alike_tree (tree_kept puts old other) (tree_kept more new other) (trees other) refl
      (omega (arith, one_more puts (spot root step.to)))
      (put_others other (λ same. true≢false (sym (number_same root other same) ∙ apart))))
