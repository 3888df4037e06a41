-- Each store of a history has a best at each state of an automaton.
use Rattle.std.proofs.Common.{◌≡◌, ℕ, ◌+◌, ◌<◌, ◌≤◌, List, [], ◌∷◌, ◌++◌, length, get_or, Option}
use Rattle.std.proofs.Common.{Some, None, refl, sym, ap, subst, ◌∙◌, inl, inr, ⊎_elim, arith}
use Rattle.std.specs.Prelude.{◌↔◌, All, Contains}
use Rattle.std.specs.Option.{option_and_then}
use Rattle.std.proofs.lemmas.Bool.{cases_lt}
use Rattle.std.proofs.lemmas.Option.{none-some, same_Some, option_and_then_some}
use Rattle.std.proofs.lemmas.List.{get_or_past}
use Rattle.std.proofs.lemmas.List.Elements.{All-nil, All-cons, All-head, All-tail, All-append}
use Rattle.rpq_base.specs.Same.{same_name}
use Rattle.rpq_base.specs.declared.data.Label.{Label}
use Rattle.rpq_base.specs.declared.data.Edge.{Edge}
use Rattle.rpq_base.proofs.Equality.{names}
use Rattle.rpq_base.proofs.Members.{cons_members, none_in}
use Rattle.dfa_table.specs.DfaValue.{DfaValue, step_of, place_of}
use Rattle.dfa_table.specs.Runs.{step_with, run_from, LeadsTo}
use Rattle.dfa_table.proofs.Runs.{runs_join}
use Rattle.rpq_model.specs.Path.{Leads, word_of}
use Rattle.rpq_model.specs.Window.{clock, edges_at}
use Rattle.rpq_model.proofs.Paths.{leads_on, word_on}
use Rattle.tree_insert.specs.Best.{IsAtLeast}
use Rattle.tree_insert.proofs.Bests.{greatest_one}
use Rattle.index_laws.specs.Best.{IsWayBetween, HasWay}
use Rattle.index_laws.specs.LawsOfBests.{StoresHaveBests}
use Rattle.index_laws.proofs.Values.{live_now}
use Rattle.index_laws.proofs.Told.{OrNot, told_by, both_or_not, one_or_not, numbers_or_not}
use Rattle.index_laws.proofs.Told.{reached_or_not, IsListed, none_listed, same_listed, listed_if}
use Rattle.index_laws.proofs.Told.{each_listed, below_listed, greatest_below}
use Rattle.index_laws.proofs.Led.{IsLed, led_nowhere, led_before, led_or_not, led_holds}

-- ---- a bound for values

bound_of : (value : Option ℕ) →
    (bound : ℕ) × ((number : ℕ) → IsAtLeast number value → number ≤ bound)
bound_of None = (0, λ number reached. absurd reached)
bound_of (Some value) = (value, λ number reached. reached)

bound_of_all : (edges : List Edge) (store : Edge → Option ℕ) → (bound : ℕ)
    × ((edge : Edge) (number : ℕ) → Contains edges edge → IsAtLeast number (store edge) →
    number ≤ bound)
bound_of_all [] store = (0, λ edge number member reached. absurd (none_in edge member))
bound_of_all (first ∷ rest) store =
    let here = bound_of (store first) in
    let further = bound_of_all rest store in (
      here.0 + further.0,
      λ edge number member reached. ⊎_elim
          (λ is.
          let low = here.1 number
          (subst (λ (each : Edge). IsAtLeast number (store each)) (sym is) reached) in
          omega (arith, low))
          (λ later. let low = further.1 edge number later reached in omega (arith, low))
          ((cons_members first rest edge).0 member),
    )

-- ---- arrows: edges with a step of the automaton

-- a vertex and a state
record Node : Type 0 where
  pub vertex : List ℕ
  pub state : ℕ

-- an edge, with the state before it and the state after it
record Arrow : Type 0 where
  pub edge : Edge
  pub before : ℕ
  pub after : ℕ

abbrev node : List ℕ → ℕ → Node
node vertex state = record { vertex = vertex; state = state }

abbrev start : Arrow → Node
start arrow = node arrow.edge.from arrow.before

abbrev end : Arrow → Node
end arrow = node arrow.edge.to arrow.after

nodes_or_not : (first second : Node) → OrNot (first ≡ second)
nodes_or_not first second = ⊎_elim
    (λ both. inl (λ i. record { vertex = both.0 i; state = both.1 i }))
    (λ never. inr (λ is.
    never (ap (λ (each : Node). each.vertex) is, ap (λ (each : Node). each.state) is)))
    (both_or_not
    (told_by (same_name first.vertex second.vertex) (names first.vertex second.vertex))
    (numbers_or_not first.state second.state))

-- a state with a step is one of the automaton's
below_rows : (dfa : DfaValue) (state place target : ℕ) → step_of dfa state place ≡ Some target →
    state < length dfa.rows
below_rows dfa state place target step = ⊎_elim
    (λ less. less)
    (λ past.
    let row = get_or_past dfa.rows state [] past in
    absurd (none-some target
    (sym (ap (λ (each : List (Option ℕ)). get_or each place None) row) ∙ step)))
    (cases_lt state (length dfa.rows))

step_within : (dfa : DfaValue) (state target : ℕ) (label : Label) →
    step_with dfa state label ≡ Some target → state < length dfa.rows
step_within dfa state target label steps =
    option_and_then_some (λ place. step_of dfa state place) (place_of dfa label) target steps
    (λ place found step. below_rows dfa state place target step)

-- the arrow is that of the step with the edge from the state
abbrev IsStep : DfaValue → Edge → ℕ → Arrow → Type 0
IsStep dfa edge before arrow = (arrow.edge ≡ edge) × (arrow.before ≡ before)
    × (step_with dfa before edge.label ≡ Some arrow.after)

step_listed : (dfa : DfaValue) (edge : Edge) (before : ℕ) → IsListed (IsStep dfa edge before)
step_listed dfa edge before = by_step (step_with dfa before edge.label) refl
  where
    by_step : (step : Option ℕ) → step_with dfa before edge.label ≡ step →
        IsListed (IsStep dfa edge before)
    by_step None is = none_listed (IsStep dfa edge before)
        (λ arrow has. none-some arrow.after (sym is ∙ has.2))
    by_step (Some after) is =
        let one : Arrow = record { edge = edge; before = before; after = after } in (
          one ∷ [],
          λ arrow. (
            (λ member. ⊎_elim
                (λ here. subst (IsStep dfa edge before) here (refl, refl, is))
                (λ later. absurd (none_in arrow later))
                ((cons_members one [] arrow).0 member)),
            (λ has.
                let same = same_Some after arrow.after (sym is ∙ has.2) in
                let here : one ≡ arrow = λ i. record {
                  edge = sym has.0 i;
                  before = sym has.1 i;
                  after = same i;
                } in
                (cons_members one [] arrow).1 (inl here)),
          ),
        )

-- ---- ways, by arrows

module _ (store : Edge → Option ℕ) (dfa : DfaValue) (number : ℕ) where
  abbrev IsReached : Edge → Type 0
  IsReached edge = IsAtLeast number (store edge)

  -- a path whose values reach the number leads from one vertex and state to another
  record IsRun (from to : Node) : Type 0 where
    pub path : List Edge
    pub leads : Leads from.vertex path to.vertex
    pub reached : All IsReached path
    pub runs : run_from dfa from.state (word_of path) ≡ Some to.state

  no_run : (at : Node) → IsRun at at
  no_run at = record { path = []; leads = refl; reached = All-nil IsReached; runs = refl }

  run_on : (from middle to : Node) → IsRun from middle → IsRun middle to → IsRun from to
  run_on from middle to first second = record {
    path = first.path ++ second.path;
    leads = leads_on first.path second.path from.vertex middle.vertex to.vertex first.leads
        second.leads;
    reached = All-append IsReached first.path second.path first.reached second.reached;
    runs = ap (run_from dfa from.state) (word_on first.path second.path)
        ∙ (runs_join dfa from.state (word_of first.path) (word_of second.path)
        ∙ (ap (option_and_then (λ next. run_from dfa next (word_of second.path))) first.runs
        ∙ second.runs));
  }

  -- the edge reaches the number, and its label leads from the state before to the state after
  abbrev IsArrow : Arrow → Type 0
  IsArrow arrow = IsReached arrow.edge
      × (step_with dfa arrow.before arrow.edge.label ≡ Some arrow.after)

  arrow_run : (arrow : Arrow) → IsArrow arrow → IsRun (start arrow) (end arrow)
  arrow_run arrow is = record {
    path = arrow.edge ∷ [];
    leads = (refl, refl);
    reached = All-cons IsReached arrow.edge [] is.0 (All-nil IsReached);
    runs = ap (option_and_then (λ next. run_from dfa next [])) is.1;
  }

  module _ (arrows : List Arrow) (are : (arrow : Arrow) → Contains arrows arrow ↔ IsArrow arrow)
    where
      run_of_led : (from to : Node) → IsLed start end arrows from to → IsRun from to
      run_of_led = led_holds start end arrows IsRun no_run run_on
          (λ arrow member. arrow_run arrow ((are arrow).0 member))

      led_of_run : (path : List Edge) (from to : List ℕ) (state target : ℕ) → Leads from path to →
          All IsReached path → run_from dfa state (word_of path) ≡ Some target →
          IsLed start end arrows (node from state) (node to target)
      led_of_run [] from to state target leads reached runs =
          let same = same_Some state target runs in
          subst (IsLed start end arrows (node from state))
          (λ i. record { vertex = leads i; state = same i })
          (led_nowhere start end arrows (node from state))
      led_of_run (edge ∷ path) from to state target leads reached runs =
          option_and_then_some (λ next. run_from dfa next (word_of path))
          (step_with dfa state edge.label) target runs
          (λ next step further.
          let arrow : Arrow = record { edge = edge; before = state; after = next } in
          let on = led_of_run path edge.to to next target leads.1
          (All-tail IsReached edge path reached) further in
          let here = (are arrow).1 (All-head IsReached edge path reached, step) in
          subst (λ (vertex : List ℕ). IsLed start end arrows (node vertex state) (node to target))
          leads.0 (led_before start end arrows arrow (node to target) here on))

      -- one of the arrows begins at the node and leads on to the other
      abbrev IsLedAfter : Node → Node → Type 0
      IsLedAfter from to = (arrow : Arrow) × Contains arrows arrow
          × ((start arrow ≡ from) × IsLed start end arrows (end arrow) to)

      led_of_way : (path : List Edge) (from to : List ℕ) (target : ℕ) →
          IsWayBetween store from to number path → LeadsTo dfa target (word_of path) →
          IsLedAfter (node from 0) (node to target)
      led_of_way [] from to target way runs = absurd (way.some refl)
      led_of_way (edge ∷ path) from to target way runs =
          option_and_then_some (λ next. run_from dfa next (word_of path))
          (step_with dfa 0 edge.label) target runs
          (λ next step further.
          let arrow : Arrow = record { edge = edge; before = 0; after = next } in
          let start_is : start arrow ≡ node from 0 =
          λ i. record { vertex = way.leads.0 i; state = 0 } in (
            arrow,
            (are arrow).1 (All-head IsReached edge path way.least, step),
            (
              start_is,
              led_of_run path edge.to to next target way.leads.1
                  (All-tail IsReached edge path way.least) further,
            ),
          ))

      way_of_led : (from to : List ℕ) (target : ℕ) → IsLedAfter (node from 0) (node to target) →
          HasWay store (LeadsTo dfa target) from to number
      way_of_led from to target led =
          let first = led.0 in
          let is = (are first).0 led.1 in
          let on = run_of_led (end first) (node to target) led.2.1 in
          let begins = led.2.0 in
          let all = run_on (node from 0) (end first) (node to target)
          (subst (λ (at : Node). IsRun at (end first)) begins (arrow_run first is)) on in
          let vertex = ap (λ (at : Node). at.vertex) begins in
          let state = ap (λ (at : Node). at.state) begins in (
            first.edge ∷ on.path,
            record {
              some = λ e. cc;
              leads = (vertex, on.leads);
              least = All-cons IsReached first.edge on.path is.0 on.reached;
            },
            ap (λ (at : ℕ). run_from dfa at (word_of (first.edge ∷ on.path))) (sym state)
                ∙ (ap (option_and_then (λ next. run_from dfa next (word_of on.path))) is.1
                ∙ on.runs),
          )

  -- the arrows over the edges of a list
  abbrev IsOver : List ℕ → Edge → Arrow → Type 0
  IsOver states edge arrow = IsReached edge
      × ((before : ℕ) × Contains states before × IsStep dfa edge before arrow)

  over_listed : (states : List ℕ) (edge : Edge) → IsListed (IsOver states edge)
  over_listed states edge =
      listed_if
      (λ arrow. (before : ℕ) × Contains states before × IsStep dfa edge before arrow)
      (IsReached edge) (reached_or_not (store edge) number)
      (each_listed states (IsStep dfa edge) (step_listed dfa edge))

  arrow_over : (states : List ℕ) (edge : Edge) (arrow : Arrow) → IsOver states edge arrow →
      IsArrow arrow
  arrow_over states edge arrow over =
      let step = over.1.2 in (
        subst IsReached (sym step.0) over.0,
        ap (λ (each : Edge). step_with dfa arrow.before each.label) step.0
            ∙ (ap (λ (at : ℕ). step_with dfa at edge.label) step.1 ∙ step.2),
      )

  arrows_listed : (edges : List Edge) → ((edge : Edge) → IsReached edge → Contains edges edge) →
      IsListed IsArrow
  arrows_listed edges keys =
      let states = below_listed (length dfa.rows) in
      same_listed
      (λ arrow. (edge : Edge) × Contains edges edge × IsOver states.0 edge arrow) IsArrow
      (λ arrow. (
        (λ over. arrow_over states.0 over.0 arrow over.2),
        (λ is.
            let within = step_within dfa arrow.before arrow.after arrow.edge.label is.1 in
            let before = (states.1 arrow.before).1 within in
            (arrow.edge, keys arrow.edge is.0, (is.0, (arrow.before, before, (refl, refl, is.1))))),
      ))
      (each_listed edges (IsOver states.0) (over_listed states.0))

  -- whether there is a way
  way_or_not : (edges : List Edge) → ((edge : Edge) → IsReached edge → Contains edges edge) →
      (from to : List ℕ) (target : ℕ) → OrNot (HasWay store (LeadsTo dfa target) from to number)
  way_or_not edges keys from to target =
      let arrows = arrows_listed edges keys in
      let leads = λ (arrow : Arrow).
      (start arrow ≡ node from 0) × IsLed start end arrows.0 (end arrow) (node to target) in
      ⊎_elim
      (λ led. inl (way_of_led arrows.0 arrows.1 from to target led))
      (λ never. inr (λ way.
      never (led_of_way arrows.0 arrows.1 way.0 from to target way.1 way.2)))
      (one_or_not arrows.0 leads (λ arrow.
      both_or_not (nodes_or_not (start arrow) (node from 0))
      (led_or_not start end nodes_or_not arrows.0 (end arrow) (node to target))))

-- ---- the bests

-- the values of a path are below a bound
way_below : (path : List Edge) (store : Edge → Option ℕ) (from to : List ℕ) (number bound : ℕ) →
    ((edge : Edge) (number : ℕ) → IsAtLeast number (store edge) → number ≤ bound) →
    IsWayBetween store from to number path → number ≤ bound
way_below [] store from to number bound below way = absurd (way.some refl)
way_below (edge ∷ path) store from to number bound below way =
    below edge number
    (All-head (λ (each : Edge). IsAtLeast number (store each)) edge path way.least)

pub stores_have_bests : StoresHaveBests
stores_have_bests = record {
  some = λ window history store dfa from to state some is.
      let edges = edges_at window (clock history) history in
      let keys = λ (edge : Edge) (number : ℕ) (reached : IsAtLeast number (store edge)).
      live_now window history store some is number edge reached in
      let bound = bound_of_all edges store in
      let below = λ (edge : Edge) (number : ℕ) (reached : IsAtLeast number (store edge)).
      bound.1 edge number (keys edge number reached) reached in
      greatest_below bound.0 (HasWay store (LeadsTo dfa state) from to)
      (λ number.
      way_or_not store dfa number edges (λ edge reached. keys edge number reached) from to state)
      (λ number way. way_below way.0 store from to number bound.0 below way.1);
  one = λ store dfa from to state best other first second.
      greatest_one best other (HasWay store (LeadsTo dfa state) from to) first second;
}
