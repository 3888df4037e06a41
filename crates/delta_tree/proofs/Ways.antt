-- Paths from the root of a tree.
use Rattle.std.proofs.Common.{◌≡◌, ◌+◌, ◌-◌, ◌*◌, ◌^◌, ◌<◌, ◌≤◌, ℕ, zero, suc, ◌⊎◌, inl, inr, List, [], ◌∷◌, ◌++◌, Option, None, Some, refl, sym, ap, ap₂, subst, ◌∙◌, append_assoc, arith}
use Rattle.std.proofs.Math.Nat.{mul-le-mul_right}
use Rattle.std.proofs.lemmas.List.{append-nil}
use Rattle.edge_store.specs.declared.edge.EdgeId.{EdgeId}
use Rattle.delta_tree.specs.declared.node.NodeId.{NodeId}
use Rattle.delta_tree.specs.Nodes.{Node, TreeValue, node_of, root_id, IsBefore, IsTree}
use Rattle.delta_tree.specs.Paths.{LeadsUp}
use Rattle.delta_tree.proofs.Ids.{none_or_some}
use Rattle.delta_tree.proofs.Trees.{same_found, root_has_no_node}

-- ---- how far a node is from the root at most

-- of nodes, the less the earlier; the root has none
unfoldable pub height_of : ℕ → Option Node → ℕ
height_of puts None = 0
height_of puts (Some node) = (2 ^ 64 - node.value) * puts + node.stamp + 1

-- the height of a place
abbrev pub height : TreeValue → NodeId → ℕ
height tree id = height_of tree.puts (node_of tree id)

-- a weight with a part that is below its unit
weighs : (a b unit part rest : ℕ) → a < b → part < unit → a * unit + part + 1 < b * unit + rest + 1
weighs a b unit part rest less below =
    omega (arith, mul-le-mul_right {m = a + 1} {n = b} unit (omega (arith, less)), add_mul a unit)
  where
    add_mul : (a unit : ℕ) → (a + 1) * unit ≡ a * unit + unit
    add_mul a unit = grind arith

-- a node before another is less high
before_is_lower : (puts : ℕ) (first second : Node) → IsBefore first second → first.stamp < puts →
    second.value < 2 ^ 64 →
    height_of puts (Some first) < height_of puts (Some second)
unfolding height_of
before_is_lower puts first second (inl above) stamp fits =
    weighs (2 ^ 64 - first.value) (2 ^ 64 - second.value) puts first.stamp second.stamp
    (omega (arith, above, fits)) stamp
before_is_lower puts first second (inr (same, later)) stamp fits =
    omega (arith, ap (λ v. (2 ^ 64 - v) * puts) same, later)

-- each node has a height
some_height : (puts : ℕ) (node : Node) → 0 < height_of puts (Some node)
unfolding height_of
some_height puts node = omega arith

no_height : (puts : ℕ) → height_of puts None ≡ 0
unfolding height_of
no_height puts = refl

-- a place is the root's, or that of a node
abbrev pub IsPlace : TreeValue → NodeId → Type 0
IsPlace tree id = (id ≡ root_id tree) ⊎ ((node : Node) × (node_of tree id ≡ Some node))

-- the parent of a node is a place
pub parent_place : (tree : TreeValue) (id : NodeId) (node : Node) → IsTree tree →
    node_of tree id ≡ Some node → IsPlace tree node.parent
parent_place tree id node kept is = elim (kept id node is).parent [
  | inl at ↦ inl at
  | inr (parent, there, before) ↦ inr (parent, there)
]

-- the parent of a node is less high
pub parent_is_lower : (tree : TreeValue) (id : NodeId) (node : Node) → IsTree tree →
    node_of tree id ≡ Some node →
    height tree node.parent < height tree id
parent_is_lower tree id node kept is = subst
    (λ found. height tree node.parent < height_of tree.puts found) (sym is)
    (elim (kept id node is).parent [
      | inl at ↦ by_root at (node_of tree (root_id tree)) refl
      | inr (parent, there, before) ↦
          subst (λ found. height_of tree.puts found < height_of tree.puts (Some node)) (sym there)
          (before_is_lower tree.puts parent node before (kept node.parent parent there).stamp
          (kept id node is).value)
    ])
  where
    by_root : node.parent ≡ root_id tree → (found : Option Node) →
        node_of tree (root_id tree) ≡ found →
        height tree node.parent < height_of tree.puts (Some node)
    by_root at None none =
        subst (λ n. n < height_of tree.puts (Some node))
        (sym (ap (height tree) at ∙ ap (height_of tree.puts) none ∙ no_height tree.puts))
        (some_height tree.puts node)
    by_root at (Some other) there = absurd (root_has_no_node tree other kept there)

-- ---- the path of a node

-- where no node is at a place, the root is
pub root_from_none : (tree : TreeValue) (id : NodeId) → IsPlace tree id → node_of tree id ≡ None →
    id ≡ root_id tree
root_from_none tree id (inl at) none = at
root_from_none tree id (inr (node, is)) none = absurd (none_or_some node (sym none ∙ is))

-- a place has a path
leads_some : (tree : TreeValue) → IsTree tree → (fuel : ℕ) (id : NodeId) → height tree id ≤ fuel →
    IsPlace tree id →
    (up : List EdgeId) × LeadsUp tree id up
leads_some tree kept fuel id enough (inl at) = ([], at)
leads_some tree kept zero id enough (inr (node, is)) =
    absurd (omega (arith, enough, parent_is_lower tree id node kept is))
leads_some tree kept (suc fuel) id enough (inr (node, is)) =
    let lower = parent_is_lower tree id node kept is in
    let (up, leads) = leads_some tree kept fuel node.parent (omega (arith, enough, lower))
    (parent_place tree id node kept is) in
    (node.edge ∷ up, (node, is, refl, leads))

-- each node of a tree has a path from the root
pub node_has_path : (tree : TreeValue) (id : NodeId) → IsTree tree → IsPlace tree id →
    (up : List EdgeId) × LeadsUp tree id up
node_has_path tree id kept place = leads_some tree kept (height tree id) id (omega arith) place

-- and one alone
pub path_is_one : (tree : TreeValue) (id : NodeId) (one other : List EdgeId) → IsTree tree →
    LeadsUp tree id one → LeadsUp tree id other →
    one ≡ other
path_is_one tree id [] [] kept at here = refl
path_is_one tree id [] (edge ∷ other) kept at (node, is, _, _) =
    absurd (root_has_no_node tree node kept (sym (ap (node_of tree) at) ∙ is))
path_is_one tree id (edge ∷ one) [] kept (node, is, _, _) at =
    absurd (root_has_no_node tree node kept (sym (ap (node_of tree) at) ∙ is))
path_is_one tree id (edge ∷ one) (last ∷ other) kept (node, is, by_edge, leads)
    (found, there, by_last, back) =
    let same : node ≡ found = same_found (node_of tree id) node found is there in
    ap₂ (λ (e : EdgeId) (es : List EdgeId). e ∷ es)
    (sym by_edge ∙ ap (λ (n : Node). n.edge) same ∙ by_last)
    (path_is_one tree node.parent one other kept leads
    (subst (λ (n : Node). LeadsUp tree n.parent other) (sym same) back))

-- ---- a walk up

-- the edges lead from one place up to another
pub record GoesUp (tree : TreeValue) (from at : NodeId) (edges : List EdgeId) : Type 0 where
  pub place : IsPlace tree at
  pub rest : (up : List EdgeId) → LeadsUp tree at up → LeadsUp tree from (edges ++ up)

-- and goes on by the parent of the node
pub goes_on : (tree : TreeValue) (from at : NodeId) (edges : List EdgeId) (node : Node) →
    IsTree tree → GoesUp tree from at edges →
    node_of tree at ≡ Some node → GoesUp tree from node.parent (edges ++ node.edge ∷ [])
goes_on tree from at edges node kept walk is = record {
  place = parent_place tree at node kept is;
  rest = λ up leads.
      subst (LeadsUp tree from) (sym (append_assoc edges (node.edge ∷ []) up))
      (walk.rest (node.edge ∷ up) (node, is, refl, leads));
}

-- up to the root, where no node is
pub goes_all : (tree : TreeValue) (from at : NodeId) (edges : List EdgeId) →
    GoesUp tree from at edges → node_of tree at ≡ None →
    LeadsUp tree from edges
goes_all tree from at edges walk none =
    subst (LeadsUp tree from) (append-nil edges)
    (walk.rest [] (root_from_none tree at walk.place none))
