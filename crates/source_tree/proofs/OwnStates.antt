-- The states of a tree's nodes at a vertex.
use Rattle.std.proofs.Common.{◌≡◌, ℕ, ◌<◌, ◌≤◌, ◌+◌, List, length, Some, ⊎_elim}
use Rattle.std.proofs.Common.{refl, sym, ap, subst, ◌∙◌, arith, slice_get, Contains}
use Rattle.std.proofs.lemmas.Bool.{cases_eq}
use Rattle.std.proofs.lemmas.List.{length-map}
use Rattle.std.proofs.lemmas.Option.{same_Some, slice_get_read}
use Rattle.delta_tree.specs.declared.node.Node.{Node}
use Rattle.delta_tree.specs.declared.node.NodeId.{NodeId}
use Rattle.delta_tree.specs.Nodes.{GivesNodes, TreeValue, ids_of, node_id}
use Rattle.tree_insert.specs.Trees.{CoversStates}

module _ (tree : TreeValue) (vertex : ℕ) where
  -- those of the first nodes
  abbrev pub CoversFirst : List ℕ → ℕ → Type 0
  CoversFirst states bound =
      (place : ℕ) (id : NodeId) → place < bound → slice_get (ids_of tree) place ≡ Some id →
      id.vertex ≡ vertex → Contains states id.state

  pub one_more : (states more : List ℕ) (bound : ℕ) (here : NodeId) → CoversFirst states bound →
      slice_get (ids_of tree) bound ≡ Some here →
      ((state : ℕ) → Contains states state → Contains more state) →
      (here.vertex ≡ vertex → Contains more here.state) → CoversFirst more (bound + 1)
  one_more states more bound here covers there kept added place id below at is = ⊎_elim
      (λ (same : place ≡ bound).
      let it : id ≡ here =
      same_Some id here (sym at ∙ (ap (slice_get (ids_of tree)) same ∙ there)) in
      subst (λ (each : NodeId). Contains more each.state) (sym it)
      (added (ap (λ (each : NodeId). each.vertex) (sym it) ∙ is)))
      (λ (apart : place ≡ bound → ⊥).
      kept id.state (covers place id (omega (arith, below, apart)) at is))
      (cases_eq place bound)

  -- those of all nodes
  pub covers_all : (states : List ℕ) (bound : ℕ) → length tree.nodes ≤ bound →
      GivesNodes tree → CoversFirst states bound → CoversStates tree vertex states
  covers_all states bound all gives covers state node is =
      let id = node_id vertex state in
      let has : Contains (ids_of tree) id = (gives.exact id).1 (node, is) in
      covers has.0 id
      (omega (arith, has.1, all, length-map tree.nodes (λ (node : NodeId × Node). node.0)))
      (slice_get_read (ids_of tree) (length (ids_of tree)) has.0 id refl has.1 (sym has.2)) refl
