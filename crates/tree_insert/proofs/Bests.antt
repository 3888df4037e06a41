-- The best, and numbers that no edge can raise.
use Rattle.std.proofs.Common.{◌≡◌, ◌≢◌, ℕ, ◌≤◌, ◌<◌, min, List, [], ◌∷◌, length, Option, Some, None, refl, sym, ap, subst, ◌∙◌, arith}
use Rattle.std.specs.Prelude.{All}
use Rattle.std.proofs.lemmas.List.Elements.{All-nil, All-cons, All-head, All-tail, All-weaker}
use Rattle.edge_store.specs.declared.edge.EdgeId.{EdgeId}
use Rattle.tree_insert.specs.Best.{IsAtLeast, IsRoute, IsWay, IsGreatestOf, IsBest}
use Rattle.tree_insert.specs.Local.{HaveWays, AreSettled}
use Rattle.tree_insert.specs.Laws.{OneBest, PathsAreWays, BestIsSettled}

-- ---- values that are at least a number

pub weaker : (value : Option ℕ) (number lower : ℕ) → IsAtLeast number value → lower ≤ number →
    IsAtLeast lower value
weaker None number lower reached below = reached
weaker (Some value) number lower reached below = omega arith

pub value_of : (value : Option ℕ) (number : ℕ) → IsAtLeast number value →
    (there : ℕ) × (value ≡ Some there) × (number ≤ there)
value_of None number reached = absurd reached
value_of (Some value) number reached = (value, refl, reached)

pub at_least : (value : Option ℕ) (number there : ℕ) → value ≡ Some there → number ≤ there →
    IsAtLeast number value
at_least value number there is below = subst (IsAtLeast number) (sym is) below

pub below_some : (value : Option ℕ) (number there : ℕ) → IsAtLeast number value →
    value ≡ Some there → number ≤ there
below_some value number there reached is = subst (IsAtLeast number) is reached

-- ---- the greatest of a kind

pub greatest_one : (first second : Option ℕ) (kind : ℕ → Type 0) → IsGreatestOf kind first →
    IsGreatestOf kind second → first ≡ second
greatest_one None None kind first second = refl
greatest_one None (Some number) kind first second = absurd (first number second.is)
greatest_one (Some number) None kind first second = absurd (second number first.is)
greatest_one (Some number) (Some other) kind first second =
    let same : number ≡ other =
    omega (arith, second.most number first.is, first.most other second.is) in
    ap Some same

-- what a greatest number reaches, where there is one of the kind
pub greatest_reached : (value : Option ℕ) (kind : ℕ → Type 0) (number : ℕ) →
    IsGreatestOf kind value → kind number → IsAtLeast number value
greatest_reached None kind number greatest is = absurd (greatest number is)
greatest_reached (Some value) kind number greatest is = greatest.most number is

-- the number itself is of the kind
pub greatest_is : (value : Option ℕ) (kind : ℕ → Type 0) (number : ℕ) → IsGreatestOf kind value →
    value ≡ Some number → kind number
greatest_is None kind number greatest is = absurd cc
greatest_is (Some value) kind number greatest is =
    subst kind (let same : value ≡ number = cc in same) greatest.is

pub greatest_from : (value : Option ℕ) (kind : ℕ → Type 0) →
    ((number : ℕ) → value ≡ Some number → kind number) →
    ((number : ℕ) → kind number → IsAtLeast number value) → IsGreatestOf kind value
greatest_from None kind is most = most
greatest_from (Some value) kind is most = record { is = is value refl; most = most }

module _ (values : EdgeId → Option ℕ) (step : ℕ → ℕ → Option ℕ) (root : ℕ) where
  -- ---- ways

  abbrev Reached : ℕ → EdgeId → Type 0
  Reached number edge = IsAtLeast number (values edge)

  pub way_weaker : (vertex state number lower : ℕ) (path : List EdgeId) → lower ≤ number →
      IsWay values step root vertex state number path →
      IsWay values step root vertex state lower path
  way_weaker vertex state number lower path below way = record {
    some = way.some;
    leads = way.leads;
    least = All-weaker (Reached number) (Reached lower)
        (λ edge reached. weaker (values edge) number lower reached below) path way.least;
  }

  -- a way of one edge from the root
  pub first_way : (edge : EdgeId) (number state : ℕ) → IsAtLeast number (values edge) →
      edge.from ≡ root → step 0 edge.label ≡ Some state →
      IsWay values step root edge.to state number (edge ∷ [])
  first_way edge number state reached from leads = record {
    some = λ e. cc;
    leads = (refl, (0, (from, refl), leads));
    least = All-cons (Reached number) edge [] reached (All-nil (Reached number));
  }

  -- a way with one edge more
  pub onward_way : (edge : EdgeId) (number before state : ℕ) (path : List EdgeId) →
      IsAtLeast number (values edge) → step before edge.label ≡ Some state →
      IsWay values step root edge.from before number path →
      IsWay values step root edge.to state number (edge ∷ path)
  onward_way edge number before state path reached leads way = record {
    some = λ e. cc;
    leads = (refl, (before, way.leads, leads));
    least = All-cons (Reached number) edge path reached way.least;
  }

  -- ---- numbers that no edge can raise

  module _ (numbers : ℕ → ℕ → Option ℕ) where
    -- a settled number reaches what each way reaches
    pub settled_reaches : AreSettled values step root numbers →
        (path : List EdgeId) (vertex state number : ℕ) →
        path ≢ [] → IsRoute step root path vertex state → All (Reached number) path →
        IsAtLeast number (numbers vertex state)
    settled_reaches settled [] vertex state number some route least = absurd (some refl)
    settled_reaches settled (edge ∷ []) vertex state number some route least =
        let there = value_of (values edge) number (All-head (Reached number) edge [] least) in
        let leads : step 0 edge.label ≡ Some state =
        ap (λ (at : ℕ). step at edge.label) (sym route.1.1.1) ∙ route.1.2 in
        let reached = settled.first edge there.0 state there.1 route.1.1.0 leads in
        subst (λ (at : ℕ). IsAtLeast number (numbers at state)) route.0
        (weaker (numbers edge.to state) there.0 number reached there.2)
    settled_reaches settled (edge ∷ next ∷ path) vertex state number some route least =
        let there =
        value_of (values edge) number (All-head (Reached number) edge (next ∷ path) least) in
        let before = route.1.0 in
        let further =
        settled_reaches settled (next ∷ path) edge.from before number (λ e. cc) route.1.1
        (All-tail (Reached number) edge (next ∷ path) least) in
        let from = value_of (numbers edge.from before) number further in
        let reached = settled.onward edge there.0 before from.0 state there.1 from.1 route.1.2 in
        let below : number ≤ min from.0 there.0 = omega (arith, there.2, from.2) in
        subst (λ (at : ℕ). IsAtLeast number (numbers at state)) route.0
        (weaker (numbers edge.to state) (min from.0 there.0) number reached below)

    pub best_of_settled : HaveWays values step root numbers → AreSettled values step root numbers →
        (vertex state : ℕ) →
        IsBest values step root vertex state (numbers vertex state)
    best_of_settled ways settled vertex state = greatest_from (numbers vertex state)
        (λ number. (path : List EdgeId) × IsWay values step root vertex state number path)
        (λ number is. ways vertex state number is)
        (λ number has. settled_reaches settled has.0 vertex state number has.1.some has.1.leads
        has.1.least)

    module _ (best : (vertex state : ℕ) →
        IsBest values step root vertex state (numbers vertex state)) where
      abbrev HasWay : ℕ → ℕ → ℕ → Type 0
      HasWay vertex state number =
          (path : List EdgeId) × IsWay values step root vertex state number path

      pub ways_of_best : HaveWays values step root numbers
      ways_of_best vertex state number is =
          greatest_is (numbers vertex state) (HasWay vertex state) number (best vertex state) is

      pub settled_of_best : AreSettled values step root numbers
      settled_of_best = record {
        first = λ edge value state is from leads.
            greatest_reached (numbers edge.to state) (HasWay edge.to state) value
            (best edge.to state) (
              edge ∷ [],
              first_way edge value state
                  (at_least (values edge) value value is (omega arith)) from leads,
            );
        onward = λ edge value before number state is from leads.
            let way = ways_of_best edge.from before number from in
            let low : min number value ≤ number = omega arith in
            let least : min number value ≤ value = omega arith in
            greatest_reached (numbers edge.to state) (HasWay edge.to state) (min number value)
            (best edge.to state) (
              edge ∷ way.0,
              onward_way edge (min number value) before state way.0
                  (at_least (values edge) (min number value) value is least) leads
                  (way_weaker edge.from before number (min number value) way.0 low way.1),
            );
      }

-- ---- laws

pub one_best : OneBest
one_best values step root vertex state first second =
    greatest_one first second
    (λ number. (path : List EdgeId) × IsWay values step root vertex state number path)

pub paths_are_ways : PathsAreWays
paths_are_ways values step root vertex state least number path route is = (
  (λ way.
      let place = is.met.0 in
      let edge = is.met.1 in
      let there =
      subst (λ (each : EdgeId). IsAtLeast number (values each)) is.met.3
      (way.least place edge is.met.2) in
      below_some (values edge) number least there is.met.4),
  (λ below. record {
    some = some_edge path is.met.0 is.met.2;
    leads = route;
    least = All-weaker (λ (edge : EdgeId). IsAtLeast least (values edge))
        (λ (edge : EdgeId). IsAtLeast number (values edge))
        (λ edge reached. weaker (values edge) least number reached below) path is.least;
  }),
)
  where
    some_edge : (path : List EdgeId) (place : ℕ) → place < length path → path ≢ []
    some_edge [] place within = absurd (omega arith)
    some_edge (edge ∷ path) place within = λ e. cc

pub best_is_settled : BestIsSettled
best_is_settled values step root numbers = (
  (λ best. (
    ways_of_best values step root numbers best,
    settled_of_best values step root numbers
        best,
  )),
  (λ is. best_of_settled values step root numbers is.0 is.1),
)
