-- The tries that are let wait.
use Rattle.std.proofs.Common.{◌≡◌, ℕ, ◌≤◌, ◌<◌, ◌+◌, ⊎_elim, List, [], length, Option, Some, None, refl, sym, ap, subst, ◌∙◌, arith, Contains, slice_get, slice_index_or}
use Rattle.std.proofs.lemmas.Bool.{cases_eq, cases_lt}
use Rattle.std.proofs.lemmas.Option.{same_Some, none-some, slice_get_read}
use Rattle.std.proofs.lemmas.List.{get_or_past}
use Rattle.edge_store.specs.declared.edge.EdgeId.{EdgeId}
use Rattle.dfa_table.specs.DfaValue.{DfaValue, step_of}
use Rattle.delta_tree.specs.declared.node.Node.{Node}
use Rattle.delta_tree.specs.declared.node.NodeId.{NodeId}
use Rattle.delta_tree.specs.declared.node.Try.{Try}
use Rattle.delta_tree.specs.Nodes.{TreeValue, node_id, node_of, root_id}
use Rattle.tree_insert.specs.declared.waiting.Waiting.{Waiting}
use Rattle.tree_insert.specs.Best.{IsAtLeast}
use Rattle.tree_insert.specs.Trees.{CoversStates, Gives, IsValid}
use Rattle.tree_insert.specs.UnderWay.{IsBetween, IsBy, IsOfTry, IsOpen, IsServed, IsServedBy, IsStep}
use Rattle.tree_insert.proofs.Bests.{at_least}
use Rattle.tree_insert.proofs.UnderWay.{served_more}

-- a step is that of a try with its edge and its states
step_here : (dfa : DfaValue) (before : ℕ) (edge : EdgeId) (state : ℕ) (each : Waiting) →
    step_of dfa before edge.label ≡ Some state → 0 < state → state < length dfa.rows →
    each.before ≡ before → each.edge ≡ edge → each.state ≡ state → IsStep dfa each
step_here dfa before edge state each leads some within same_before same_edge same_state = record {
  leads = ap (λ (e : EdgeId). step_of dfa each.before e.label) same_edge ∙
      (ap (λ (s : ℕ). step_of dfa s edge.label) same_before ∙
      (leads ∙ ap (λ (s : ℕ). Some s) (sym same_state)));
  some = omega (arith, same_state);
  within = omega (arith, same_state);
}

pub by_of_between : (dfa : DfaValue) (tree : TreeValue) (before : ℕ) (edge : EdgeId)
    (value state : ℕ) (each : Waiting) → step_of dfa before edge.label ≡ Some state →
    0 < state → state < length dfa.rows → IsBetween tree before edge value state each →
    IsBy dfa tree edge value each
by_of_between dfa tree before edge value state each leads some within is = record {
  lower = is.lower;
  source = is.source;
  edge_is = is.edge_is;
  is_step = step_here dfa before edge state each leads some within is.before_is is.edge_is
      is.state_is;
}

pub try_of_between : (values : EdgeId → Option ℕ) (tree : TreeValue) (step : Try) (value : ℕ)
    (each : Waiting) → values step.edge ≡ Some value →
    IsBetween tree step.from.state step.edge value step.to.state each →
    IsOfTry values tree step each
try_of_between values tree step value each there is = record {
  source = is.source;
  edge = subst (λ (e : EdgeId). IsAtLeast each.value (values e)) (sym is.edge_is)
      (at_least (values step.edge) each.value value there is.lower);
  edge_is = is.edge_is;
  before_is = is.before_is;
  state_is = is.state_is;
}

pub open_of_by : (values : EdgeId → Option ℕ) (dfa : DfaValue) (tree : TreeValue) (edge : EdgeId)
    (value : ℕ) (each : Waiting) → values edge ≡ Some value →
    IsBy dfa tree edge value each → IsOpen values dfa tree each
open_of_by values dfa tree edge value each there is = record {
  source = is.source;
  edge = subst (λ (e : EdgeId). IsAtLeast each.value (values e)) (sym is.edge_is)
      (at_least (values edge) each.value value there is.lower);
  is_step = is.is_step;
}

pub open_of_try : (values : EdgeId → Option ℕ) (dfa : DfaValue) (tree : TreeValue) (step : Try)
    (each : Waiting) → IsValid values (step_of dfa) tree step →
    0 < step.to.state → step.to.state < length dfa.rows → IsOfTry values tree step each →
    IsOpen values dfa tree each
open_of_try values dfa tree step each valid some within is = record {
  source = is.source;
  edge = is.edge;
  is_step = step_here dfa step.from.state step.edge step.to.state each valid.leads some within
      is.before_is is.edge_is is.state_is;
}

-- ---- from all states

-- a step leads from one of the states
pub step_within : (dfa : DfaValue) (state label next : ℕ) → step_of dfa state label ≡ Some next →
    state < length dfa.rows
step_within dfa state label next leads = ⊎_elim (λ (below : state < length dfa.rows). below)
    (λ (past : length dfa.rows ≤ state).
    absurd (none-some next
    (sym (ap (λ (row : List (Option ℕ)). slice_index_or row label None)
    (get_or_past dfa.rows state [] past)) ∙ leads)))
    (cases_lt state (length dfa.rows))

-- what the edge could give from the first states of a list is there, or waits
abbrev pub AreServedFromFirst : DfaValue → TreeValue → List Waiting → EdgeId → ℕ → List ℕ → ℕ →
    Type 0
AreServedFromFirst dfa tree waits edge value states bound =
    (place before : ℕ) → place < bound → slice_get states place ≡ Some before →
    IsServedBy dfa tree waits edge value before

pub served_by_more : (dfa : DfaValue) (tree : TreeValue) (waits more : List Waiting) (edge : EdgeId)
    (value before : ℕ) → ((each : Waiting) → Contains waits each → Contains more each) →
    IsServedBy dfa tree waits edge value before → IsServedBy dfa tree more edge value before
served_by_more dfa tree waits more edge value before kept served number state low carries leads =
    served_more tree waits more (node_id edge.to state) number kept
    (served number state low carries leads)

pub state_one_more : (dfa : DfaValue) (tree : TreeValue) (waits more : List Waiting) (edge : EdgeId)
    (value : ℕ) (states : List ℕ) (bound item : ℕ) →
    AreServedFromFirst dfa tree waits edge value states bound →
    ((each : Waiting) → Contains waits each → Contains more each) →
    slice_get states bound ≡ Some item → IsServedBy dfa tree more edge value item →
    AreServedFromFirst dfa tree more edge value states (bound + 1)
state_one_more dfa tree waits more edge value states bound item served kept is one place before
    below there = ⊎_elim
    (λ (same : place ≡ bound).
    let it : item ≡ before =
    same_Some item before (sym is ∙ (ap (slice_get states) (sym same) ∙ there)) in
    subst (IsServedBy dfa tree more edge value) it one)
    (λ (apart : place ≡ bound → ⊥).
    served_by_more dfa tree waits more edge value before kept
    (served place before (omega (arith, apart)) there))
    (cases_eq place bound)

pub state_all : (dfa : DfaValue) (tree : TreeValue) (waits : List Waiting) (edge : EdgeId)
    (value : ℕ) (states : List ℕ) (bound : ℕ) → length states ≤ bound →
    AreServedFromFirst dfa tree waits edge value states bound → (before : ℕ) →
    Contains states before → IsServedBy dfa tree waits edge value before
state_all dfa tree waits edge value states bound all served before has =
    served has.0 before (omega (arith, has.1, all))
    (slice_get_read states (length states) has.0 before refl has.1 (sym has.2))

-- a place at the edge's source is the root's, or a node of one of the states
pub served_by_all : (dfa : DfaValue) (tree : TreeValue) (waits : List Waiting) (edge : EdgeId)
    (value : ℕ) (states : List ℕ) → CoversStates tree edge.from states →
    (edge.from ≡ tree.root → IsServedBy dfa tree waits edge value 0) →
    ((before : ℕ) → Contains states before → IsServedBy dfa tree waits edge value before) →
    (before : ℕ) → IsServedBy dfa tree waits edge value before
served_by_all dfa tree waits edge value states covers root listed before number state low carries
    leads = ⊎_elim
    (λ (here : node_id edge.from before ≡ root_id tree).
    let start : 0 ≡ before = sym (ap (λ (id : NodeId). id.state) here) in
    subst (IsServedBy dfa tree waits edge value) start
    (root (ap (λ (id : NodeId). id.vertex) here)) number state low carries leads)
    (λ (has : (node : Node) × (node_of tree (node_id edge.from before) ≡ Some node) ×
    (number ≤ node.value)).
    listed before (covers before has.0 has.1) number state low carries leads)
    carries

-- ---- all of a list

-- what the first tries could give is there, or waits
abbrev pub AreServedFirst : (EdgeId → Option ℕ) → TreeValue → List Waiting → List Try → ℕ → Type 0
AreServedFirst values tree waits tries bound =
    (place : ℕ) (step : Try) (number : ℕ) → place < bound → slice_get tries place ≡ Some step →
    Gives values tree step number → IsServed tree waits step.to number

pub first_one_more : (values : EdgeId → Option ℕ) (tree : TreeValue) (waits more : List Waiting)
    (tries : List Try) (bound : ℕ) (item : Try) →
    AreServedFirst values tree waits tries bound →
    ((each : Waiting) → Contains waits each → Contains more each) →
    slice_get tries bound ≡ Some item →
    ((number : ℕ) → Gives values tree item number → IsServed tree more item.to number) →
    AreServedFirst values tree more tries (bound + 1)
first_one_more values tree waits more tries bound item served kept is one place step number below
    there gives = ⊎_elim
    (λ (same : place ≡ bound).
    let it : item ≡ step =
    same_Some item step (sym is ∙ (ap (slice_get tries) (sym same) ∙ there)) in
    subst (λ (each : Try). IsServed tree more each.to number) it
    (one number (subst (λ (each : Try). Gives values tree each number) (sym it) gives)))
    (λ (apart : place ≡ bound → ⊥). served_more tree waits more step.to number kept
    (served place step number (omega (arith, apart)) there gives))
    (cases_eq place bound)

pub first_all : (values : EdgeId → Option ℕ) (tree : TreeValue) (waits : List Waiting)
    (tries : List Try) (bound : ℕ) → length tries ≤ bound →
    AreServedFirst values tree waits tries bound → (step : Try) (number : ℕ) → Contains tries step →
    Gives values tree step number → IsServed tree waits step.to number
first_all values tree waits tries bound all served step number has gives =
    served has.0 step number (omega (arith, has.1, all))
    (slice_get_read tries (length tries) has.0 step refl has.1 (sym has.2)) gives

-- the try that a read past the end of a list would give
abbrev pub no_try : Try
no_try = record {
  from = record { vertex = 0; state = 0 };
  edge = record { from = 0; label = 0; to = 0 };
  to = record { vertex = 0; state = 0 };
}
