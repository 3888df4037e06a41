-- The best entries from the nodes of a tree.
use Rattle.std.proofs.Common.{◌≡◌, ℕ, ◌<◌, ◌≤◌, ◌+◌, ◌⊎◌, inl, inr, ⊎_elim, length, Option, Some}
use Rattle.std.proofs.Common.{refl, sym, ap, subst, ◌∙◌, arith, slice_get, Contains}
use Rattle.std.proofs.lemmas.Bool.{cases_eq}
use Rattle.std.proofs.lemmas.List.{length-map}
use Rattle.std.proofs.lemmas.Option.{same_Some, slice_get_read}
use Rattle.dfa_table.proofs.Runs.{label_within}
use Rattle.dfa_table.specs.DfaValue.{DfaValue, IsDfa, step_of}
use Rattle.edge_store.specs.declared.edge.EdgeId.{EdgeId}
use Rattle.delta_tree.specs.declared.node.Node.{Node}
use Rattle.delta_tree.specs.declared.node.NodeId.{NodeId}
use Rattle.delta_tree.specs.Nodes.{GivesNodes, TreeValue, ids_of, node_id, node_of, root_id}
use Rattle.tree_insert.specs.Best.{IsAtLeast}
use Rattle.tree_delete.specs.declared.entry.TreeEntry.{TreeEntry}
use Rattle.tree_delete.specs.Entries.{CanEnter, value_in}

module _ (values : EdgeId → Option ℕ) (step : ℕ → ℕ → Option ℕ) (tree : TreeValue) (id : NodeId)
  where
    -- ---- from one place, by the first labels

    abbrev pub IsMostByLabels : NodeId → Option TreeEntry → ℕ → Type 0
    IsMostByLabels from best bound =
        (edge : EdgeId) (number : ℕ) → edge.label < bound → edge.from ≡ from.vertex →
        CanEnter values step tree id edge from.state number → IsAtLeast number (value_in best)

    pub label_one_more : (from : NodeId) (best more : Option TreeEntry) (bound : ℕ) →
        IsMostByLabels from best bound →
        ((number : ℕ) → IsAtLeast number (value_in best) → IsAtLeast number (value_in more)) →
        ((number : ℕ) → CanEnter values step tree id
        (record { from = from.vertex; label = bound; to = id.vertex }) from.state number →
        IsAtLeast number (value_in more)) →
        IsMostByLabels from more (bound + 1)
    label_one_more from best more bound most kept one edge number below leaves can = ⊎_elim
        (λ (same : edge.label ≡ bound).
        let made : EdgeId = record { from = from.vertex; label = bound; to = id.vertex } in
        let is : edge ≡ made =
        λ i. record { from = leaves i; label = same i; to = can.to i } in
        one number
        (subst (λ (each : EdgeId). CanEnter values step tree id each from.state number) is can))
        (λ (apart : edge.label ≡ bound → ⊥).
        kept number (most edge number (omega (arith, below, apart)) leaves can))
        (cases_eq edge.label bound)

    -- ---- from the root and the first nodes

    -- the place is the root or one of the first nodes
    abbrev pub IsAmong : NodeId → ℕ → Type 0
    IsAmong from bound = (from ≡ root_id tree)
        ⊎ ((place : ℕ) × (place < bound) × (slice_get (ids_of tree) place ≡ Some from))

    abbrev pub IsMostFrom : Option TreeEntry → ℕ → Type 0
    IsMostFrom best bound =
        (edge : EdgeId) (before number : ℕ) → IsAmong (node_id edge.from before) bound →
        CanEnter values step tree id edge before number → IsAtLeast number (value_in best)

    -- from a place
    abbrev IsMostAt : NodeId → Option TreeEntry → Type 0
    IsMostAt from best = (edge : EdgeId) (number : ℕ) → edge.from ≡ from.vertex →
        CanEnter values step tree id edge from.state number → IsAtLeast number (value_in best)

    at_place : (from : NodeId) (best : Option TreeEntry) (edge : EdgeId) (before number : ℕ) →
        IsMostAt from best → node_id edge.from before ≡ from →
        CanEnter values step tree id edge before number → IsAtLeast number (value_in best)
    at_place from best edge before number most is can =
        most edge number (ap (λ (each : NodeId). each.vertex) is)
        (subst (λ (state : ℕ). CanEnter values step tree id edge state number)
        (ap (λ (each : NodeId). each.state) is) can)

    pub from_root : (best : Option TreeEntry) → IsMostAt (root_id tree) best → IsMostFrom best 0
    from_root best most edge before number among can = ⊎_elim
        (λ (root : node_id edge.from before ≡ root_id tree).
        at_place (root_id tree) best edge before number most root can)
        (λ (node : (place : ℕ) × (place < 0) × (slice_get (ids_of tree) place
        ≡ Some (node_id edge.from before))). absurd (let no : ⊥ = omega (arith, node.1) in no))
        among

    pub node_one_more : (best more : Option TreeEntry) (bound : ℕ) (from : NodeId) →
        IsMostFrom best bound →
        ((number : ℕ) → IsAtLeast number (value_in best) → IsAtLeast number (value_in more)) →
        slice_get (ids_of tree) bound ≡ Some from → IsMostAt from more →
        IsMostFrom more (bound + 1)
    node_one_more best more bound from most kept there one edge before number among can = ⊎_elim
        (λ (root : node_id edge.from before ≡ root_id tree).
        kept number (most edge before number (inl root) can))
        (λ (node : (place : ℕ) × (place < bound + 1) × (slice_get (ids_of tree) place
        ≡ Some (node_id edge.from before))). ⊎_elim
        (λ (same : node.0 ≡ bound).
        at_place from more edge before number one
        (same_Some (node_id edge.from before) from
        (sym node.2 ∙ (ap (slice_get (ids_of tree)) same ∙ there))) can)
        (λ (apart : node.0 ≡ bound → ⊥).
        kept number
        (most edge before number (inr (node.0, omega (arith, node.1, apart), node.2)) can))
        (cases_eq node.0 bound))
        among

    -- from all of them
    pub from_all : (best : Option TreeEntry) (bound : ℕ) → length tree.nodes ≤ bound →
        GivesNodes tree → IsMostFrom best bound → (edge : EdgeId) (before number : ℕ) →
        CanEnter values step tree id edge before number → IsAtLeast number (value_in best)
    from_all best bound all gives most edge before number can =
        let from = node_id edge.from before in
        most edge before number
        (⊎_elim (λ (root : from ≡ root_id tree). inl root)
        (λ (node : (node : Node) × (node_of tree from ≡ Some node) × (number ≤ node.value)).
        let has : Contains (ids_of tree) from = (gives.exact from).1 (node.0, node.1) in
        inr (
          has.0,
          omega (arith, has.1, all, length-map tree.nodes (λ (node : NodeId × Node). node.0)),
          slice_get_read (ids_of tree) (length (ids_of tree)) has.0 from refl has.1 (sym has.2),
        ))
        can.carries)
        can

-- a step by a label is one of the automaton's
pub by_all_labels : (dfa : DfaValue) (values : EdgeId → Option ℕ) (tree : TreeValue) (id from : NodeId)
    (best : Option TreeEntry) (bound : ℕ) → IsDfa dfa → length dfa.labels ≤ bound →
    IsMostByLabels values (step_of dfa) tree id from best bound →
    (edge : EdgeId) (number : ℕ) → edge.from ≡ from.vertex →
    CanEnter values (step_of dfa) tree id edge from.state number → IsAtLeast number (value_in best)
by_all_labels dfa values tree id from best bound valid all most edge number leaves can =
    let within = label_within dfa from.state edge.label id.state valid can.leads in
    most edge number (omega (arith, within, all)) leaves can
