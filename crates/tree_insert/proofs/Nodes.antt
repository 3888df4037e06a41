-- The nodes of a tree, their values, and what a put changes.
use Rattle.std.proofs.Common.{◌≡◌, ℕ, ◌≤◌, ◌<◌, ◌⊎◌, inl, inr, ⊎_elim, Bool, true, false, cond, Option, Some, None, refl, sym, ap, subst, ◌∙◌, arith}
use Rattle.std.specs.Prelude.{option_map, IfSome}
use Rattle.std.proofs.lemmas.Bool.{cases_lt}
use Rattle.std.proofs.lemmas.Option.{same_Some, none-some}
use Rattle.delta_tree.specs.declared.node.NodeId.{NodeId}
use Rattle.delta_tree.specs.declared.node.Node.{Node}
use Rattle.delta_tree.specs.Nodes.{TreeValue, node_of, value_of, same_node, root_id, node_id, IsTree}
use Rattle.delta_tree.specs.Changes.{Carries, Raises, Puts}
use Rattle.delta_tree.proofs.Ids.{same_node_is, same_node_laws}
use Rattle.tree_insert.specs.Best.{IsAtLeast}
use Rattle.tree_insert.proofs.Bests.{at_least}

-- ---- nodes and their values

pub value_is : (tree : TreeValue) (id : NodeId) (node : Node) → node_of tree id ≡ Some node →
    value_of tree id ≡ Some node.value
value_is tree id node is = ap (option_map (λ (each : Node). each.value)) is

pub node_is : (tree : TreeValue) (id : NodeId) (number : ℕ) → value_of tree id ≡ Some number →
    (node : Node) × (node_of tree id ≡ Some node) × (node.value ≡ number)
node_is tree id number is = by (node_of tree id) refl is
  where
    by : (found : Option Node) → node_of tree id ≡ found →
        option_map (λ (each : Node). each.value) found ≡ Some number →
        (node : Node) × (node_of tree id ≡ Some node) × (node.value ≡ number)
    by None there value = absurd cc
    by (Some node) there value = (node, there, same_Some node.value number value)

pub value_reached : (tree : TreeValue) (id : NodeId) (node : Node) (number : ℕ) →
    node_of tree id ≡ Some node → number ≤ node.value → IsAtLeast number (value_of tree id)
value_reached tree id node number is below =
    at_least (value_of tree id) number node.value (value_is tree id node is) below

pub node_reached : (tree : TreeValue) (id : NodeId) (number : ℕ) →
    IsAtLeast number (value_of tree id) →
    (node : Node) × (node_of tree id ≡ Some node) × (number ≤ node.value)
node_reached tree id number reached = by (node_of tree id) refl reached
  where
    by : (found : Option Node) → node_of tree id ≡ found →
        IsAtLeast number (option_map (λ (each : Node). each.value) found) →
        (node : Node) × (node_of tree id ≡ Some node) × (number ≤ node.value)
    by None there value = absurd value
    by (Some node) there value = (node, there, value)

-- a value that is at least the one of the node can't raise it
pub raises_apart : (tree : TreeValue) (id : NodeId) (number : ℕ) → Raises tree id number →
    IsAtLeast number (value_of tree id) → ⊥
raises_apart tree id number raises reached =
    let node = node_reached tree id number reached in omega (arith, raises node.0 node.1, node.2)

pub raises_or_reached : (tree : TreeValue) (id : NodeId) (number : ℕ) →
    Raises tree id number ⊎ IsAtLeast number (value_of tree id)
raises_or_reached tree id number = by (node_of tree id) refl
  where
    by : (found : Option Node) → node_of tree id ≡ found →
        Raises tree id number ⊎ IsAtLeast number (value_of tree id)
    by None none = inl (λ node is. absurd (none-some node (sym none ∙ is)))
    by (Some there) is = ⊎_elim
        (λ (less : there.value < number). inl (λ node also.
        let same : there ≡ node = same_Some there node (sym is ∙ also) in
        subst (λ (each : Node). each.value < number) same less))
        (λ (reached : number ≤ there.value). inr (value_reached tree id there number is reached))
        (cases_lt there.value number)

pub carries_found : (tree : TreeValue) (id : NodeId) (found : Option ℕ) → found ≡ value_of tree id →
    IfSome found (λ value. Carries tree id value)
carries_found tree id None is = tt
carries_found tree id (Some value) is =
    let node = node_is tree id value (sym is) in inr (node.0, node.1, omega (arith, node.2))

pub carries_lower : (tree : TreeValue) (id : NodeId) (number lower : ℕ) → Carries tree id number →
    lower ≤ number → Carries tree id lower
carries_lower tree id number lower carries below =
    ⊎_elim (λ root. inl root)
    (λ (has : (node : Node) × (node_of tree id ≡ Some node) × (number ≤ node.value)). inr
    (has.0, has.1, omega (arith, has.2))) carries

-- ---- a put

module _ (old new : TreeValue) (to : NodeId) (node : Node) (puts : Puts old new to node) where
  pub put_here : node_of new to ≡ Some node
  put_here =
      puts to ∙ ap (λ (b : Bool). cond b (Some node) (node_of old to)) (same_node_laws.refl to)

  pub put_cases : (id : NodeId) → (to ≡ id) ⊎ (node_of new id ≡ node_of old id)
  put_cases id = by (same_node to id) refl
    where
      by : (b : Bool) → same_node to id ≡ b → (to ≡ id) ⊎ (node_of new id ≡ node_of old id)
      by true is = inl (same_node_is to id is)
      by false is = inr (puts id ∙ ap (λ (b : Bool). cond b (Some node) (node_of old id)) is)

  -- a node of the new tree
  pub put_node_cases : (id : NodeId) (each : Node) → node_of new id ≡ Some each →
      ((to ≡ id) × (node ≡ each)) ⊎ (node_of old id ≡ Some each)
  put_node_cases id each is = ⊎_elim
      (λ (same : to ≡ id). inl (
        same,
        same_Some node each
            (sym (subst (λ (at : NodeId). node_of new at ≡ Some node) same put_here) ∙ is),
      ))
      (λ (kept : node_of new id ≡ node_of old id). inr (sym kept ∙ is))
      (put_cases id)

  module _ (raises : Raises old to node.value) where
    -- no value falls
    pub put_rises : (id : NodeId) (before : Node) → node_of old id ≡ Some before →
        (after : Node) × (node_of new id ≡ Some after) × (before.value ≤ after.value)
    put_rises id before is = ⊎_elim
        (λ (same : to ≡ id).
        let less : before.value < node.value = raises before (ap (node_of old) same ∙ is) in (
          node,
          subst (λ (at : NodeId). node_of new at ≡ Some node) same put_here,
          omega
              (arith, less),
        ))
        (λ (kept : node_of new id ≡ node_of old id). (before, kept ∙ is, omega arith))
        (put_cases id)

    pub put_reached : (id : NodeId) (number : ℕ) → IsAtLeast number (value_of old id) →
        IsAtLeast number (value_of new id)
    put_reached id number reached =
        let before = node_reached old id number reached in
        let after = put_rises id before.0 before.1 in
        value_reached new id after.0 number after.1 (omega (arith, before.2, after.2))

    module _ (root : new.root ≡ old.root) where
      pub put_carries : (id : NodeId) (number : ℕ) → Carries old id number → Carries new id number
      put_carries id number carries = ⊎_elim
          (λ (is : id ≡ root_id old). inl (is ∙ ap (λ (at : ℕ). node_id at 0) (sym root)))
          (λ (has : (each : Node) × (node_of old id ≡ Some each) × (number ≤ each.value)).
          let after =
          put_rises id has.0 has.1 in inr (after.0, after.1, omega (arith, has.2, after.2)))
          carries

      -- what the new tree carries, the old one did, but at the place of the put
      pub put_carried : (id : NodeId) (number : ℕ) → Carries new id number →
          Carries old id number ⊎ ((to ≡ id) × (number ≤ node.value))
      put_carried id number carries = ⊎_elim
          (λ (is : id ≡ root_id new). inl (inl (is ∙ ap (λ (at : ℕ). node_id at 0) root)))
          (λ (has : (each : Node) × (node_of new id ≡ Some each) × (number ≤ each.value)). ⊎_elim
          (λ (here : (to ≡ id) × (node ≡ has.0)). inr
          (here.0, subst (λ (each : Node). number ≤ each.value) (sym here.1) has.2))
          (λ (old_one : node_of old id ≡ Some has.0). inl (inr (has.0, old_one, has.2)))
          (put_node_cases id has.0 has.1))
          carries

-- ---- the root and its tree

-- no node stands where the root does
pub root_is_none : (tree : TreeValue) (id : NodeId) (node : Node) → IsTree tree → id.state ≡ 0 →
    node_of tree id ≡ Some node → ⊥
root_is_none tree id node is zero there = omega (arith, (is id node there).state, zero)
