-- What an indexed forest keeps is the best of its store.
use Rattle.std.proofs.Common.{◌≡◌, ◌≢◌, ℕ, ◌==◌, List, [], ◌∷◌, Option, Some, None, refl, sym, ap, subst, ◌∙◌}
use Rattle.std.specs.Prelude.{All, is_some, option_and_then}
use Rattle.std.proofs.lemmas.Bool.{eqb-true, true≢false}
use Rattle.std.proofs.lemmas.List.Elements.{All-contains, All-head, All-tail}
use Rattle.edge_store.specs.declared.edge.EdgeId.{EdgeId}
use Rattle.edge_store.specs.Edges.{value_of as value_in}
use Rattle.dfa_table.specs.DfaValue.{step_of}
use Rattle.delta_tree.specs.Nodes.{TreeValue, node_id, value_of}
use Rattle.tree_insert.specs.Best.{IsAtLeast, IsBest, IsRoute}
use Rattle.tree_insert.specs.Trees.{IsOptimal}
use Rattle.tree_insert.proofs.Bests as bests
use Rattle.delta_forest.specs.Forest.{tree_of}
use Rattle.delta_forest.specs.Laws.{KeptIsBest}
use Rattle.delta_forest.proofs.Lookups.{found_is}

-- an edge with a value leaves the root, with a step from the start
pub record Leaves (values : EdgeId → Option ℕ) (step : ℕ → ℕ → Option ℕ) (root : ℕ)
    : Type 0 where
  pub edge : EdgeId
  pub value : ℕ
  pub target : ℕ
  pub is : values edge ≡ Some value
  pub from : edge.from ≡ root
  pub leads : step 0 edge.label ≡ Some target

-- the first edge of a way does
pub first_edge : (values : EdgeId → Option ℕ) (step : ℕ → ℕ → Option ℕ) (root number : ℕ)
    (path : List EdgeId) (vertex state : ℕ) → path ≢ [] → IsRoute step root path vertex state →
    All (λ edge. IsAtLeast number (values edge)) path → Leaves values step root
first_edge values step root number [] vertex state some route least = absurd (some refl)
first_edge values step root number (edge ∷ []) vertex state some route least =
    let there = bests.value_of (values edge) number
    (All-head (λ (each : EdgeId). IsAtLeast number (values each)) edge [] least) in
    record {
      edge = edge;
      value = there.0;
      target = state;
      is = there.1;
      from = route.1.1.0;
      leads = ap (λ (at : ℕ). step at edge.label) (sym route.1.1.1) ∙ route.1.2;
    }
first_edge values step root number (edge ∷ next ∷ path) vertex state some route least =
    first_edge values step root number (next ∷ path) edge.from route.1.0 (λ e. cc) route.1.1
    (All-tail (λ (each : EdgeId). IsAtLeast number (values each)) edge (next ∷ path) least)

pub kept_is_best : KeptIsBest
kept_is_best forest indexed root vertex state = by (tree_of forest root) refl
  where
    by : (found : Option TreeValue) → tree_of forest root ≡ found →
        IsBest (value_in forest.store) (step_of forest.dfa) root vertex state
        (option_and_then (λ (tree : TreeValue). value_of tree (node_id vertex state)) found)
    by (Some tree) is =
        let there =
        found_is (λ (each : TreeValue). each.root == root) forest.trees tree is in
        let optimal = All-contains (IsOptimal (value_in forest.store) (step_of forest.dfa))
        forest.trees tree indexed.optimal there.1 in
        subst (λ (at : ℕ). IsBest (value_in forest.store) (step_of forest.dfa) at vertex state
        (value_of tree (node_id vertex state)))
        (eqb-true tree.root root there.0) (optimal.best (node_id vertex state))
    by None is = λ number has.
        let way = has.1 in
        let leaves = first_edge (value_in forest.store) (step_of forest.dfa) root number has.0
        vertex state way.some way.leads way.least in
        let there = indexed.sources leaves.edge leaves.value leaves.target leaves.is leaves.leads in
        true≢false (sym there ∙ (ap (λ (at : ℕ). is_some (tree_of forest at)) leaves.from
        ∙ ap is_some is))
