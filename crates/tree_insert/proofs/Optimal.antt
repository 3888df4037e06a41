-- Optimal trees, and what no edge can raise.
use Rattle.std.proofs.Common.{◌≡◌, ◌≢◌, ℕ, suc, ◌≤◌, ◌<◌, inl, inr, ⊎_elim, min, List, [], ◌∷◌, Option, Some, refl, sym, ap, subst, ◌∙◌, arith, Contains}
use Rattle.std.specs.Prelude.{All, is_some}
use Rattle.std.proofs.lemmas.Bool.{cases_lt}
use Rattle.std.proofs.lemmas.List.Elements.{All-nil, All-cons, All-head, All-tail, All-weaker}
use Rattle.edge_store.specs.declared.edge.EdgeId.{EdgeId}
use Rattle.delta_tree.specs.declared.node.NodeId.{NodeId}
use Rattle.delta_tree.specs.declared.node.Try.{Try}
use Rattle.delta_tree.specs.declared.node.Node.{Node}
use Rattle.delta_tree.specs.Nodes.{TreeValue, node_of, value_of, node_id, root_id, IsTree}
use Rattle.delta_tree.specs.Changes.{Carries}
use Rattle.tree_insert.specs.declared.waiting.Waiting.{Waiting}
use Rattle.tree_insert.specs.Best.{IsAtLeast, IsWay, IsBest, IsLeast}
use Rattle.tree_insert.specs.Local.{HaveWays, AreSettled}
use Rattle.tree_insert.specs.Trees.{HasOwnWays, IsOptimal, Gives, HasAll, HasBest, IsRaised}
use Rattle.tree_insert.specs.Laws.{RaiseElsewhereKeepsOptimal}
use Rattle.tree_insert.specs.UnderWay.{AreSupported, IsServed, AreServed}
use Rattle.tree_insert.proofs.Bests.{weaker, at_least, below_some, greatest_reached, best_of_settled, settled_of_best, paths_are_ways}
use Rattle.tree_insert.proofs.Bests as bests
use Rattle.tree_insert.proofs.SameEdges.{edge_cases}
use Rattle.tree_insert.proofs.Members.{contains_none}
use Rattle.tree_insert.proofs.Nodes.{value_is, node_is, raises_or_reached, raises_apart}
use Rattle.tree_insert.proofs.Paths.{path_there, ways_of_supported, supported_of_ways}

-- the values of a tree by vertices and states
abbrev pub values_in : TreeValue → ℕ → ℕ → Option ℕ
values_in tree vertex state = value_of tree (node_id vertex state)

module _ (values : EdgeId → Option ℕ) where
  abbrev Reached : ℕ → EdgeId → Type 0
  Reached number edge = IsAtLeast number (values edge)

  -- a path of edges with values has a least one
  pub least_there : (path : List EdgeId) (number : ℕ) → path ≢ [] → All (Reached number) path →
      (least : ℕ) × IsLeast values path least
  least_there [] number some all = absurd (some refl)
  least_there (edge ∷ []) number some all =
      let there = bests.value_of (values edge) number (All-head (Reached number) edge [] all) in (
        there.0,
        record {
          met = (0, edge, omega arith, refl, there.1);
          least = All-cons (Reached there.0) edge []
              (at_least (values edge) there.0 there.0 there.1 (omega arith))
              (All-nil (Reached there.0));
        },
      )
  least_there (edge ∷ next ∷ path) number some all =
      let rest = next ∷ path in
      let there = bests.value_of (values edge) number (All-head (Reached number) edge rest all) in
      let further =
      least_there (next ∷ path) number (λ e. cc) (All-tail (Reached number) edge rest all) in
      ⊎_elim
      (λ (less : there.0 < further.0). (
        there.0,
        record {
          met = (0, edge, omega arith, refl, there.1);
          least = All-cons (Reached there.0) edge rest
              (at_least (values edge) there.0 there.0 there.1 (omega arith))
              (All-weaker (Reached further.0) (Reached there.0)
              (λ each reached. weaker (values each) further.0 there.0 reached (omega arith))
              rest further.1.least);
        },
      ))
      (λ (more : further.0 ≤ there.0). (
        further.0,
        record {
          met = (
            suc further.1.met.0,
            further.1.met.1,
            omega (arith, further.1.met.2),
            further.1.met.3,
            further.1.met.4,
          );
          least = All-cons (Reached further.0) edge rest
              (at_least (values edge) further.0 there.0 there.1 more) further.1.least;
        },
      ))
      (cases_lt there.0 further.0)

module _ (values : EdgeId → Option ℕ) (step : ℕ → ℕ → Option ℕ) (tree : TreeValue) where
  -- ---- from a search that has ended

  -- where nothing waits, no edge can raise a value
  settled_of_served : AreServed values step tree [] →
      AreSettled values step tree.root (values_in tree)
  settled_of_served served = record {
    first = λ edge value state is from leads.
        there edge.to state value
        (served edge 0 value state (inl (λ i. record { vertex = from i; state = 0 }))
        (at_least (values edge) value value is (omega arith)) leads);
    onward = λ edge value before number state is from leads.
        let node = node_is tree (node_id edge.from before) number from in
        let low : min number value ≤ node.0.value = omega (arith, node.2) in
        there edge.to state (min number value)
        (served edge before (min number value) state (inr (node.0, node.1, low))
        (at_least (values edge) (min number value) value is (omega arith)) leads);
  }
    where
      there : (vertex state number : ℕ) → IsServed tree [] (node_id vertex state) number →
          IsAtLeast number (values_in tree vertex state)
      there vertex state number is = ⊎_elim (λ reached. reached)
          (λ (has : (each : Waiting) × Contains [] each × _ × (number ≤ each.value)). absurd
          (contains_none has.0 has.1)) is

  pub optimal_of_served : IsTree tree → AreSupported values step tree →
      AreServed values step tree [] → IsOptimal values step tree
  optimal_of_served is supported served = record {
    best = best;
    paths = paths;
    least = λ id node path there leads.
        let way = paths id node path there leads in
        let least = least_there values path node.value way.some way.least in
        let also : IsWay values step tree.root id.vertex id.state least.0 path =
        (paths_are_ways values step tree.root id.vertex id.state least.0 least.0 path way.leads
        least.1).1 (omega arith) in
        let most : IsAtLeast least.0 (value_of tree id) =
        greatest_reached (value_of tree id)
        (λ number. (each : List EdgeId) × IsWay values step tree.root id.vertex id.state number
        each) least.0 (best id) (path, also) in
        let low : least.0 ≤ node.value =
        below_some (value_of tree id) least.0 node.value most (value_is tree id node there) in
        let high : node.value ≤ least.0 =
        (paths_are_ways values step tree.root id.vertex id.state least.0 node.value path
        way.leads least.1).0 way in
        let same : least.0 ≡ node.value = omega (arith, low, high) in
        subst (IsLeast values path) same least.1;
  }
    where
      paths : HasOwnWays values step tree
      paths = ways_of_supported values step tree is supported

      ways : HaveWays values step tree.root (values_in tree)
      ways vertex state number there =
          let node = node_is tree (node_id vertex state) number there in
          let path = path_there tree (node_id vertex state) node.0 is node.1 in (
            path.0,
            subst (λ (n : ℕ). IsWay values step tree.root vertex state n path.0) node.2
                (paths (node_id vertex state) node.0 path.0 node.1 path.1),
          )

      best : (id : NodeId) → IsBest values step tree.root id.vertex id.state (value_of tree id)
      best id =
          best_of_settled values step tree.root (values_in tree) ways (settled_of_served served)
          id.vertex id.state

  -- ---- to a search that begins

  -- in an optimal tree no edge can raise anything
  pub reached_of_optimal : IsOptimal values step tree → (edge : EdgeId) (before number state : ℕ) →
      Carries tree (node_id edge.from before) number → IsAtLeast number (values edge) →
      step before edge.label ≡ Some state → IsAtLeast number (value_of tree (node_id edge.to state))
  reached_of_optimal optimal edge before number state carries reached leads =
      let settled =
      settled_of_best values step tree.root (values_in tree)
      (λ vertex at. optimal.best (node_id vertex at)) in
      let there = bests.value_of (values edge) number reached in
      ⊎_elim
      (λ (root : node_id edge.from before ≡ root_id tree).
      weaker (value_of tree (node_id edge.to state)) there.0 number
      (settled.first edge there.0 state there.1 (ap (λ (id : NodeId). id.vertex) root)
      (ap (λ (id : NodeId). step id.state edge.label) (sym root) ∙ leads)) there.2)
      (λ (has : (node : Node) × (node_of tree (node_id edge.from before) ≡ Some node) ×
      (number ≤ node.value)).
      let low : number ≤ min has.0.value there.0 = omega (arith, has.2, there.2) in
      weaker (value_of tree (node_id edge.to state)) (min has.0.value there.0) number
      (settled.onward edge there.0 before has.0.value state there.1
      (value_is tree (node_id edge.from before) has.0 has.1) leads) low)
      carries

  -- the tries that could raise something are served by the best ones
  pub served_of_best : (tries : List Try) (waits : List Waiting) → HasBest values step tree tries →
      ((each : Try) (number : ℕ) → Contains tries each → Gives values tree each number →
      IsServed tree waits each.to number) → AreServed values step tree waits
  served_of_best tries waits best offered edge before number state carries reached leads = ⊎_elim
      (λ raises.
      let each : Try =
      record { from = node_id edge.from before; edge = edge; to = node_id edge.to state } in
      let has = best each number (record {
        valid = record {
          from = ⊎_elim (λ (root : node_id edge.from before ≡ root_id tree). inl root)
              (λ (node : (node : Node) × (node_of tree (node_id edge.from before) ≡ Some node) ×
              (number ≤ node.value)). inr (ap is_some node.1)) carries;
          edge = ap is_some (bests.value_of (values edge) number reached).1;
          joins = record { leaves = refl; ends = refl };
          leads = leads;
        };
        gives = record { from = carries; edge = reached };
        lower = raises_apart tree (node_id edge.to state) number raises;
      }) in
      subst (λ (id : NodeId). IsServed tree waits id number) has.2
      (offered has.0 number has.1 has.3))
      (λ there. inl there)
      (raises_or_reached tree (node_id edge.to state) number)

pub best_of_all : (values : EdgeId → Option ℕ) (step : ℕ → ℕ → Option ℕ) (tree : TreeValue)
    (tries : List Try) → HasAll values step tree tries → HasBest values step tree tries
best_of_all values step tree tries all each number can =
    (each, all each number can, refl, can.gives)

-- ---- one edge raised

module _ (before values : EdgeId → Option ℕ) (step : ℕ → ℕ → Option ℕ) (tree : TreeValue)
    (edge : EdgeId) (raised : IsRaised before values edge) where
  -- no value falls
  raised_reached : (number : ℕ) (each : EdgeId) → IsAtLeast number (before each) →
      IsAtLeast number (values each)
  raised_reached number each reached = ⊎_elim
      (λ (same : each ≡ edge). subst (λ (e : EdgeId). IsAtLeast number (values e)) (sym same)
      (raised.rises number (subst (λ (e : EdgeId). IsAtLeast number (before e)) same reached)))
      (λ (apart : each ≢ edge). subst (IsAtLeast number) (sym (raised.others each apart)) reached)
      (edge_cases each edge)

  pub ways_of_raised : HasOwnWays before step tree → HasOwnWays values step tree
  ways_of_raised ways id node path there leads =
      let way = ways id node path there leads in
      record {
        some = way.some;
        leads = way.leads;
        least = All-weaker (λ (each : EdgeId). IsAtLeast node.value (before each))
            (λ (each : EdgeId). IsAtLeast node.value (values each))
            (λ each reached. raised_reached node.value each reached) path way.least;
      }

  -- the tries by the edge are all that could raise something
  pub served_of_raised : (waits : List Waiting) → IsOptimal before step tree →
      ((at number state : ℕ) → IsAtLeast number (values edge) →
      Carries tree (node_id edge.from at) number → step at edge.label ≡ Some state →
      IsServed tree waits (node_id edge.to state) number) → AreServed values step tree waits
  served_of_raised waits optimal offered each at number state carries reached leads = ⊎_elim
      (λ (same : each ≡ edge).
      subst (λ (e : EdgeId). IsServed tree waits (node_id e.to state) number) (sym same)
      (offered at number state (subst (λ (e : EdgeId). IsAtLeast number (values e)) same reached)
      (subst (λ (e : EdgeId). Carries tree (node_id e.from at) number) same carries)
      (ap (λ (e : EdgeId). step at e.label) (sym same) ∙ leads)))
      (λ (apart : each ≢ edge).
      inl (reached_of_optimal before step tree optimal each at number state carries
      (subst (IsAtLeast number) (raised.others each apart) reached) leads))
      (edge_cases each edge)

pub raise_elsewhere_keeps_optimal : RaiseElsewhereKeepsOptimal
raise_elsewhere_keeps_optimal before after step tree edge is optimal raised none =
    optimal_of_served after step tree is
    (supported_of_ways after step tree is
    (ways_of_raised before after step tree edge raised optimal.paths))
    (served_of_raised before after step tree edge raised [] optimal
    (λ at number state reached carries leads. absurd (none (record {
      id = node_id edge.from at;
      place = ⊎_elim (λ (root : node_id edge.from at ≡ root_id tree). inl root)
          (λ (has : (node : Node) × (node_of tree (node_id edge.from at) ≡ Some node) ×
          (number ≤ node.value)). inr (ap is_some has.1)) carries;
      leaves = refl;
      state = state;
      leads = leads;
    }))))
