-- What keeps a tree a tree.
use Rattle.std.proofs.Common.{◌≡◌, ◌+◌, ◌<◌, ◌≤◌, ◌^◌, ℕ, Bool, true, false, inl, inr, cond, nat_lt, [], ◌∷◌, Option, None, Some, refl, sym, ap, subst, ◌∙◌, arith}
use Rattle.std.proofs.Math.Nat.{eq-or-lt_of_le}
use Rattle.std.proofs.lemmas.Bool.{lt-ltb, ltb-true}
use Rattle.std.proofs.lemmas.List.Elements.{Contains-append_right}
use Rattle.edge_store.specs.declared.edge.EdgeId.{EdgeId}
use Rattle.delta_tree.specs.declared.node.NodeId.{NodeId}
use Rattle.delta_tree.specs.declared.node.Try.{Try}
use Rattle.delta_tree.specs.Nodes.{Node, TreeValue, node_of, root_id, node_id, same_node, IsBefore, HasParent, Stands, Joins, IsTree}
use Rattle.delta_tree.specs.Changes.{Carries, Raises, Puts, put_node, living, Expires, Cuts, IsSameBeside}
use Rattle.delta_tree.specs.Paths.{IsBelow}
use Rattle.delta_tree.proofs.Ids.{same_node_is, changed_there, changed_else, none_or_some, some_is_one}

-- one node stands in one place
pub same_found : (found : Option Node) (a b : Node) → found ≡ Some a → found ≡ Some b → a ≡ b
same_found found a b one other = some_is_one a b (sym one ∙ other)

-- the root stands where no node does
pub root_has_no_node : (tree : TreeValue) (node : Node) → IsTree tree →
    node_of tree (root_id tree) ≡ Some node → ⊥
root_has_no_node tree node kept is =
    let above = (kept (root_id tree) node is).state in
    absurd (omega (arith, above))

-- a node before another has at least its value
pub value_before : (first second : Node) → IsBefore first second → second.value ≤ first.value
value_before first second before = elim before [
  | inl above ↦ omega (arith, above)
  | inr (same, _) ↦ omega (arith, same)
]

-- ---- a put

module _ (old new : TreeValue) (step : Try) (value : ℕ) (kept : IsTree old)
    (raises : Raises old step.to value)
    (put : Puts old new step.to (put_node old step value)) (root : new.root ≡ old.root)
    (counted : new.puts ≡ old.puts + 1) where
  -- where the root stands
  root_stays : root_id new ≡ root_id old
  root_stays = ap (λ r. node_id r 0) root

  -- the node of the step is new
  there : node_of new step.to ≡ Some (put_node old step value)
  there = put step.to ∙ changed_there (node_of old step.to) step.to step.to
      (Some (put_node old step value)) refl

  -- a parent of a node that stood before is before it still
  parent_kept : (node : Node) → HasParent old node → HasParent new node
  parent_kept node (inl at) = inl (at ∙ sym root_stays)
  parent_kept node (inr (parent, is, before)) = by (same_node step.to node.parent) refl
    where
      by : (b : Bool) → same_node step.to node.parent ≡ b → HasParent new node
      by true same =
          let at : step.to ≡ node.parent = same_node_is step.to node.parent same in
          let above : parent.value < value = raises parent (ap (node_of old) at ∙ is) in
          let below : node.value ≤ parent.value = value_before parent node before in
          inr (
            put_node old step value,
            sym (ap (node_of new) at)
                ∙ there,
            inl (omega (arith, above, below)),
          )
      by false other = inr (
        parent,
        put node.parent
            ∙ ap (λ b. cond b (Some (put_node old step value)) (node_of old node.parent)) other
            ∙ is,
        before,
      )

  -- the parent of the new node is before it
  parent_new : Carries old step.from value → HasParent new (put_node old step value)
  parent_new (inl at) = inl (at ∙ sym root_stays)
  parent_new (inr (parent, is, enough)) = inr (parent, stays, before)
    where
      apart : step.to ≡ step.from → ⊥
      apart same =
          let above : parent.value < value = raises parent (ap (node_of old) same ∙ is) in
          omega (arith, above, enough)

      stays : node_of new step.from ≡ Some parent
      stays = put step.from
          ∙ changed_else (node_of old step.from) step.to step.from (Some (put_node old step value))
          apart ∙ is

      before : IsBefore parent (put_node old step value)
      before = elim (eq-or-lt_of_le enough) [
        | inl same ↦ inr (sym same, (kept step.from parent is).stamp)
        | inr above ↦ inl above
      ]

  -- a tree stays one
  pub put_keeps : Carries old step.from value → 0 < step.to.state →
      Joins step.from step.edge step.to → value < 2 ^ 64 → IsTree new
  put_keeps carries state joins fits id node is = by (same_node step.to id) refl
    where
      by : (b : Bool) → same_node step.to id ≡ b → Stands new id node
      by true same =
          let at : step.to ≡ id = same_node_is step.to id same in
          let here : put_node old step value ≡ node =
          same_found (node_of new step.to) (put_node old step value) node there
          (ap (node_of new) at ∙ is) in
          subst (λ place. Stands new place node) at (subst (Stands new step.to) here (record {
            parent = parent_new carries;
            joins = joins;
            state = state;
            value = fits;
            stamp = omega (arith, counted);
          }))
      by false other =
          let before = kept id node
          (sym (put id ∙ ap (λ b. cond b (Some (put_node old step value)) (node_of old id))
          other) ∙ is) in
          record {
            parent = parent_kept node before.parent;
            joins = before.joins;
            state = before.state;
            value = before.value;
            stamp = omega (arith, counted, before.stamp);
          }

-- ---- an expiry

-- what is above a clock was there, and is above it
pub living_some : (now : ℕ) (found : Option Node) (node : Node) → living now found ≡ Some node →
    (found ≡ Some node) × (now < node.value)
living_some now None node is = absurd (none_or_some node is)
living_some now (Some kept) node is = by (nat_lt now kept.value) refl is
  where
    by : (b : Bool) → nat_lt now kept.value ≡ b → cond b (Some kept) None ≡ Some node →
        (Some kept ≡ Some node) × (now < node.value)
    by true below same = (
      same,
      subst (λ (n : Node). now < n.value)
          (same_found (Some kept) kept node refl same) (ltb-true now kept.value below),
    )
    by false past same = absurd (none_or_some node same)

-- what is above a clock stays
pub living_stays : (now : ℕ) (found : Option Node) (node : Node) → found ≡ Some node →
    now < node.value → living now found ≡ Some node
living_stays now found node is above =
    ap (living now) is ∙ ap (λ b. cond b (Some node) None) (lt-ltb now node.value above)

-- and what isn't goes
pub living_gone : (now : ℕ) (found : Option Node) (node : Node) → found ≡ Some node →
    node.value ≤ now → living now found ≡ None
living_gone now found node is below = ap (living now) is ∙ by (nat_lt now node.value) refl
  where
    by : (b : Bool) → nat_lt now node.value ≡ b → cond b (Some node) None ≡ None
    by true above = absurd (omega (arith, ltb-true now node.value above, below))
    by false past = refl

-- a tree that lost nodes is one, where the parents of those that are left are left
pub fewer_keeps : (old new : TreeValue) → IsTree old → IsSameBeside old new →
    ((id : NodeId) (node : Node) → node_of new id ≡ Some node → node_of old id ≡ Some node) →
    ((id : NodeId) (node parent : Node) → node_of new id ≡ Some node →
    node_of old node.parent ≡ Some parent → IsBefore parent node →
    node_of new node.parent ≡ Some parent) →
    IsTree new
fewer_keeps old new kept beside stood parents id node is =
    let before = kept id node (stood id node is) in
    record {
      parent = by before.parent;
      joins = before.joins;
      state = before.state;
      value = before.value;
      stamp = subst (λ n. node.stamp < n) (sym beside.puts) before.stamp;
    }
  where
    by : HasParent old node → HasParent new node
    by (inl at) = inl (at ∙ sym (ap (λ r. node_id r 0) beside.root))
    by (inr (parent, there, before)) = inr (parent, parents id node parent is there before, before)

-- an expiry leaves a tree
pub expire_keeps : (old new : TreeValue) (now : ℕ) → IsTree old → Expires old new now →
    IsSameBeside old new → IsTree new
expire_keeps old new now kept expires beside =
    fewer_keeps old new kept beside
    (λ id node is. (living_some now (node_of old id) node (sym (expires id) ∙ is)).0)
    (λ id node parent is there before.
    let above = (living_some now (node_of old id) node (sym (expires id) ∙ is)).1 in
    let below = value_before parent node before in
    expires node.parent ∙ living_stays now (node_of old node.parent) parent there
    (omega (arith, above, below)))

-- ---- a cut

-- a node below one on whose path an edge stands has it on its own
pub below_parent : (tree : TreeValue) (edge : EdgeId) (id : NodeId) (node : Node) →
    node_of tree id ≡ Some node →
    IsBelow tree edge node.parent → IsBelow tree edge id
below_parent tree edge id node is (up, leads, (k, within, at)) = (
  node.edge ∷ up,
  (node, is, refl, leads),
  Contains-append_right (node.edge ∷ []) up edge
      (k, within, at),
)

-- a cut leaves a tree
pub cut_keeps : (old new : TreeValue) (edge : EdgeId) → IsTree old → Cuts old new edge →
    IsSameBeside old new → IsTree new
cut_keeps old new edge kept cuts beside =
    fewer_keeps old new kept beside stood
    (λ id node parent is there before.
    cuts.kept node.parent
    (λ below. stays id node is (below_parent old edge id node (stood id node is) below))
    ∙ there)
  where
    stays : (id : NodeId) (node : Node) → node_of new id ≡ Some node → IsBelow old edge id → ⊥
    stays id node is below = none_or_some node (sym (cuts.gone id below) ∙ is)

    stood : (id : NodeId) (node : Node) → node_of new id ≡ Some node → node_of old id ≡ Some node
    stood id node is = sym (cuts.kept id (stays id node is)) ∙ is
