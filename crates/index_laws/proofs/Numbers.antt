-- Paths by names, and routes by numbers.
use Rattle.std.proofs.Common.{◌≡◌, ◌≢◌, ℕ, List, [], ◌∷◌, ◌++◌, get_or, Option, Some, None, refl}
use Rattle.std.proofs.Common.{sym, ap, subst, ◌∙◌, ◌⊎◌, inl, inr, ⊎_elim}
use Rattle.std.specs.Prelude.{◌↔◌, All}
use Rattle.std.specs.Option.{option_and_then}
use Rattle.std.proofs.lemmas.List.Quantifiers.{position-Some}
use Rattle.std.proofs.lemmas.Option.{same_Some, option_and_then_some}
use Rattle.std.proofs.lemmas.List.Elements.{All-nil, All-cons, All-head, All-tail, All-append}
use Rattle.rpq_base.specs.Same.{same_name}
use Rattle.rpq_base.specs.declared.data.Label.{Label}
use Rattle.rpq_base.specs.declared.data.Edge.{Edge}
use Rattle.rpq_base.proofs.Equality.{names as name_test}
use Rattle.rpq_base.proofs.Places.{label_got_at_place}
use Rattle.dfa_table.specs.DfaValue.{DfaValue, step_of, place_of}
use Rattle.dfa_table.specs.Runs.{step_with, run_from, LeadsTo}
use Rattle.dfa_table.proofs.Runs.{runs_join}
use Rattle.rpq_model.specs.Path.{Leads, word_of}
use Rattle.rpq_model.proofs.Paths.{leads_on, word_on}
use Rattle.name_table.specs.Names.{number_of}
use Rattle.edge_store.specs.declared.edge.EdgeId.{EdgeId}
use Rattle.tree_insert.specs.Best.{IsAtLeast, IsRoute, IsWay, IsBest}
use Rattle.tree_insert.proofs.Bests.{value_of}
use Rattle.index_laws.specs.Best.{IsWayBetween, HasWay, IsBestAt}
use Rattle.index_laws.specs.Numbered.{HasNumbers, AreNumbersOf, IsByNumbers, IsFree}
use Rattle.index_laws.specs.LawsOfNumbers.{BestByNumbers}
use Rattle.index_laws.proofs.Stores.{greatest_same}

-- ---- what has a number

pub one_name : (names : List (List ℕ)) (first second : List ℕ) (number : ℕ) →
    number_of names first ≡ Some number → number_of names second ≡ Some number → first ≡ second
one_name names first second number here there =
    let at = get_or names number [] in
    let one = position-Some (same_name first) names number [] here in
    let other = position-Some (same_name second) names number [] there in
    (name_test first at).0 one.1 ∙ sym ((name_test second at).0 other.1)

one_label : (dfa : DfaValue) (first second : Label) (number : ℕ) →
    place_of dfa first ≡ Some number → place_of dfa second ≡ Some number → first ≡ second
one_label dfa first second number here there =
    let one = label_got_at_place dfa.labels first number here in
    let other = label_got_at_place dfa.labels second number there in
    same_Some first second (sym one.1 ∙ other.1)

-- numbers are those of one edge
pub one_edge : (names : List (List ℕ)) (dfa : DfaValue) (id : EdgeId) (edge other : Edge) →
    HasNumbers names dfa edge id → HasNumbers names dfa other id → edge ≡ other
one_edge names dfa id edge other first second =
    let from = one_name names edge.from other.from id.from first.from second.from in
    let label = one_label dfa edge.label other.label id.label first.label second.label in
    let to = one_name names edge.to other.to id.to first.to second.to in
    λ i. record { from = from i; label = label i; to = to i }

-- and an edge has one numbers
pub one_id : (names : List (List ℕ)) (dfa : DfaValue) (edge : Edge) (id other : EdgeId) →
    HasNumbers names dfa edge id → HasNumbers names dfa edge other → id ≡ other
one_id names dfa edge id other first second =
    let from = same_Some id.from other.from (sym first.from ∙ second.from) in
    let label = same_Some id.label other.label (sym first.label ∙ second.label) in
    let to = same_Some id.to other.to (sym first.to ∙ second.to) in
    λ i. record { from = from i; label = label i; to = to i }

-- ---- routes and paths

module _ (names : List (List ℕ)) (dfa : DfaValue) (store : Edge → Option ℕ)
    (values : EdgeId → Option ℕ) (are : IsByNumbers names dfa store values) (number : ℕ) where
  abbrev IsReached : Edge → Type 0
  IsReached edge = IsAtLeast number (store edge)

  abbrev IsReachedId : EdgeId → Type 0
  IsReachedId id = IsAtLeast number (values id)

  -- numbers that are reached are those of an edge
  edge_of : (id : EdgeId) → IsReachedId id → (edge : Edge) × HasNumbers names dfa edge id
  edge_of id reached =
      let there = value_of (values id) number reached in are.edges id there.0 there.1

  -- an edge that is reached, and with whose label the automaton steps, has numbers
  id_of : (edge : Edge) (state target : ℕ) → IsReached edge →
      step_with dfa state edge.label ≡ Some target →
      (id : EdgeId) × HasNumbers names dfa edge id × (step_of dfa state id.label ≡ Some target)
  id_of edge state target reached steps =
      option_and_then_some (λ label. step_of dfa state label) (place_of dfa edge.label) target steps
      (λ label placed step.
      let there = value_of (store edge) number reached in
      let found = are.numbers edge there.0 label there.1 placed in
      let same = same_Some label found.0.label (sym placed ∙ found.1.label) in
      (found.0, found.1, subst (λ (each : ℕ). step_of dfa state each ≡ Some target) same step))

  -- a route from a root ends at a name, and begins at one
  end_named : (path : List EdgeId) (root vertex state : ℕ) → path ≢ [] →
      IsRoute (step_of dfa) root path vertex state → All IsReachedId path →
      (name : List ℕ) × (number_of names name ≡ Some vertex)
  end_named [] root vertex state some route reached = absurd (some refl)
  end_named (id ∷ path) root vertex state some route reached =
      let found = edge_of id (All-head IsReachedId id path reached) in
      (found.0.to, found.1.to ∙ ap (λ (at : ℕ). Some at) route.0)

  start_named : (path : List EdgeId) (root vertex state : ℕ) → path ≢ [] →
      IsRoute (step_of dfa) root path vertex state → All IsReachedId path →
      (name : List ℕ) × (number_of names name ≡ Some root)
  start_named [] root vertex state some route reached = absurd (some refl)
  start_named (id ∷ []) root vertex state some route reached =
      let found = edge_of id (All-head IsReachedId id [] reached) in
      (found.0.from, found.1.from ∙ ap (λ (at : ℕ). Some at) route.1.1.0)
  start_named (id ∷ next ∷ path) root vertex state some route reached =
      start_named (next ∷ path) root id.from route.1.0 (λ e. cc) route.1.1
      (All-tail IsReachedId id (next ∷ path) reached)

  -- the ends of a path that the automaton goes along have numbers
  start_numbered : (path : List Edge) (from to : List ℕ) (now state : ℕ) → path ≢ [] →
      Leads from path to → All IsReached path → run_from dfa now (word_of path) ≡ Some state →
      (root : ℕ) × (number_of names from ≡ Some root)
  start_numbered [] from to now state some leads reached runs = absurd (some refl)
  start_numbered (edge ∷ path) from to now state some leads reached runs =
      option_and_then_some (λ next. run_from dfa next (word_of path))
      (step_with dfa now edge.label) state runs
      (λ next steps further.
      let found = id_of edge now next (All-head IsReached edge path reached) steps in
      (found.0.from, ap (number_of names) (sym leads.0) ∙ found.1.from))

  end_numbered : (path : List Edge) (from to : List ℕ) (now state : ℕ) → path ≢ [] →
      Leads from path to → All IsReached path → run_from dfa now (word_of path) ≡ Some state →
      (vertex : ℕ) × (number_of names to ≡ Some vertex)
  end_numbered [] from to now state some leads reached runs = absurd (some refl)
  end_numbered (edge ∷ []) from to now state some leads reached runs =
      option_and_then_some (λ next. run_from dfa next []) (step_with dfa now edge.label) state runs
      (λ next steps further.
      let found = id_of edge now next (All-head IsReached edge [] reached) steps in
      (found.0.to, ap (number_of names) (sym leads.1) ∙ found.1.to))
  end_numbered (edge ∷ second ∷ path) from to now state some leads reached runs =
      option_and_then_some (λ next. run_from dfa next (word_of (second ∷ path)))
      (step_with dfa now edge.label) state runs
      (λ next steps further.
      end_numbered (second ∷ path) edge.to to next state (λ e. cc) leads.1
      (All-tail IsReached edge (second ∷ path) reached) further)

  pub way_numbered : (path : List Edge) (from to : List ℕ) (state : ℕ) → path ≢ [] →
      Leads from path to → All IsReached path → LeadsTo dfa state (word_of path) →
      (root : ℕ) × (vertex : ℕ) × AreNumbersOf names from to root vertex
  way_numbered path from to state some leads reached runs =
      let root = start_numbered path from to 0 state some leads reached runs in
      let vertex = end_numbered path from to 0 state some leads reached runs in
      (root.0, vertex.0, (root.1, vertex.1))

  -- ---- from a route to a path

  record IsSpelled (from to : List ℕ) (state : ℕ) (route : List EdgeId)
      (path : List Edge) : Type 0 where
    pub some : route ≢ [] → path ≢ []
    pub leads : Leads from path to
    pub reached : All IsReached path
    pub runs : run_from dfa 0 (word_of path) ≡ Some state

  some_more : (path : List Edge) (edge : Edge) → path ++ edge ∷ [] ≢ []
  some_more [] edge = λ e. cc
  some_more (first ∷ path) edge = λ e. cc

  spelled : (route : List EdgeId) (root vertex state : ℕ) (from to : List ℕ) →
      number_of names from ≡ Some root → number_of names to ≡ Some vertex →
      IsRoute (step_of dfa) root route vertex state → All IsReachedId route →
      (path : List Edge) × IsSpelled from to state route path
  spelled [] root vertex state from to root_is vertex_is leads reached = (
    [],
    record {
      some = λ some. absurd (some refl);
      leads = one_name names from to root root_is
          (vertex_is ∙ ap (λ (at : ℕ). Some at) leads.0);
      reached = All-nil IsReached;
      runs = ap (λ (at : ℕ). Some at) (sym leads.1);
    },
  )
  spelled (id ∷ route) root vertex state from to root_is vertex_is leads reached =
      let here = All-head IsReachedId id route reached in
      let found = edge_of id here in
      let edge = found.0 in
      let before = leads.1.0 in
      let further = spelled route root id.from before from edge.from root_is found.1.from leads.1.1
      (All-tail IsReachedId id route reached) in
      let path = further.0 in
      let step : step_with dfa before edge.label ≡ Some state =
      ap (option_and_then (λ label. step_of dfa before label)) found.1.label ∙ leads.1.2 in
      let ends = one_name names edge.to to vertex
      (found.1.to ∙ ap (λ (at : ℕ). Some at) leads.0) vertex_is in
      let value = subst (IsAtLeast number) (are.same edge id found.1) here in (
        path ++ edge ∷ [],
        record {
          some = λ some. some_more path edge;
          leads = leads_on path (edge ∷ []) from edge.from to further.1.leads (refl, ends);
          reached = All-append IsReached path (edge ∷ []) further.1.reached
              (All-cons IsReached edge [] value (All-nil IsReached));
          runs = ap (run_from dfa 0) (word_on path (edge ∷ []))
              ∙ (runs_join dfa 0 (word_of path) (edge.label ∷ [])
              ∙ (ap (option_and_then (λ next. run_from dfa next (edge.label ∷ []))) further.1.runs
              ∙ ap (option_and_then (λ next. run_from dfa next [])) step));
        },
      )

  -- ---- from a path to a route

  -- a route for the path after another route
  record IsFound (root vertex state : ℕ) (before : List EdgeId) (path : List Edge)
      (route : List EdgeId) : Type 0 where
    pub some : (before ≢ []) ⊎ (path ≢ []) → route ≢ []
    pub leads : IsRoute (step_of dfa) root route vertex state
    pub reached : All IsReachedId route

  routed : (path : List Edge) (before : List EdgeId) (root at vertex now state : ℕ)
      (from to : List ℕ) →
      number_of names from ≡ Some at → number_of names to ≡ Some vertex →
      IsRoute (step_of dfa) root before at now → All IsReachedId before →
      Leads from path to → All IsReached path → run_from dfa now (word_of path) ≡ Some state →
      (route : List EdgeId) × IsFound root vertex state before path route
  routed [] before root at vertex now state from to at_is vertex_is route ready leads reached runs =
      let vertex_same =
      same_Some at vertex (sym at_is ∙ (ap (number_of names) leads ∙ vertex_is)) in
      let state_same = same_Some now state runs in
      let there = subst (λ (each : ℕ). IsRoute (step_of dfa) root before each now) vertex_same
      route in (
        before,
        record {
          some = λ either. ⊎_elim (λ some. some) (λ none. absurd (none refl)) either;
          leads = subst (IsRoute (step_of dfa) root before vertex) state_same there;
          reached = ready;
        },
      )
  routed (edge ∷ path) before root at vertex now state from to at_is vertex_is route ready leads
      reached runs =
      option_and_then_some (λ next. run_from dfa next (word_of path))
      (step_with dfa now edge.label) state runs
      (λ next steps further.
      let here = All-head IsReached edge path reached in
      let found = id_of edge now next here steps in
      let id = found.0 in
      let from_same : at ≡ id.from =
      same_Some at id.from (sym at_is ∙ (ap (number_of names) (sym leads.0) ∙ found.1.from)) in
      let there =
      subst (λ (each : ℕ). IsRoute (step_of dfa) root before each now) from_same route in
      let value = subst (IsAtLeast number) (sym (are.same edge id found.1)) here in
      let on = routed path (id ∷ before) root id.to vertex next state edge.to to found.1.to
      vertex_is
      (refl, (now, there, found.2)) (All-cons IsReachedId id before value ready)
      leads.1 (All-tail IsReached edge path reached) further in (
        on.0,
        record {
          some = λ either. on.1.some (inl (λ e. cc));
          leads = on.1.leads;
          reached = on.1.reached;
        },
      ))

  -- ways by numbers are ways by names
  ways_named : (root vertex state : ℕ) (from to : List ℕ) →
      number_of names from ≡ Some root → number_of names to ≡ Some vertex →
      ((path : List EdgeId) × IsWay values (step_of dfa) root vertex state number path)
      ↔ HasWay store (LeadsTo dfa state) from to number
  ways_named root vertex state from to root_is vertex_is = (
    (λ found.
        let way = found.1 in
        let path =
        spelled found.0 root vertex state from to root_is vertex_is way.leads way.least in
        let is = path.1 in
        let by_names : IsWayBetween store from to number path.0 =
        record { some = is.some way.some; leads = is.leads; least = is.reached } in
        (path.0, by_names, is.runs)),
    (λ has.
        let way = has.1 in
        let route = routed has.0 [] root root vertex 0 state from to root_is vertex_is (refl, refl)
        (All-nil IsReachedId) way.leads way.least has.2 in
        let is = route.1 in
        (route.0, record { some = is.some (inr way.some); leads = is.leads; least = is.reached })),
  )

-- ---- the law

module _ (names : List (List ℕ)) (dfa : DfaValue) (store : Edge → Option ℕ)
    (values : EdgeId → Option ℕ) (are : IsByNumbers names dfa store values) where
  bests_named : (from to : List ℕ) (root vertex state : ℕ) (best : Option ℕ) →
      AreNumbersOf names from to root vertex →
      IsBest values (step_of dfa) root vertex state best ↔ IsBestAt store dfa from to state best
  bests_named from to root vertex state best is =
      let there = λ (number : ℕ).
      (path : List EdgeId) × IsWay values (step_of dfa) root vertex state number path in
      let here = HasWay store (LeadsTo dfa state) from to in
      let alike = λ (number : ℕ).
      ways_named names dfa store values are number root vertex state from to is.0 is.1 in (
        greatest_same best there here alike,
        greatest_same best here there (λ number. ((alike number).1, (alike number).0)),
      )

  none_at_free : (root vertex state : ℕ) (best : Option ℕ) →
      IsFree names root ⊎ IsFree names vertex →
      IsBest values (step_of dfa) root vertex state best → best ≡ None
  none_at_free root vertex state None free is = refl
  none_at_free root vertex state (Some best) free is =
      let path = is.is.0 in
      let way = is.is.1 in
      absurd (⊎_elim
      (λ at_root.
      let found = start_named names dfa store values are best path root vertex state way.some
      way.leads way.least in
      at_root found.0 found.1)
      (λ at_vertex.
      let found = end_named names dfa store values are best path root vertex state way.some
      way.leads way.least in
      at_vertex found.0 found.1)
      free)

  best_numbered : (from to : List ℕ) (state best : ℕ) →
      IsBestAt store dfa from to state (Some best) →
      (root : ℕ) × (vertex : ℕ) × AreNumbersOf names from to root vertex
  best_numbered from to state best is =
      let way = is.is.1 in
      way_numbered names dfa store values are best is.is.0 from to state way.some way.leads
      way.least is.is.2

pub best_by_numbers : BestByNumbers
best_by_numbers names dfa store values are = record {
  named = bests_named names dfa store values are;
  free = none_at_free names dfa store values are;
  numbered = best_numbered names dfa store values are;
}
