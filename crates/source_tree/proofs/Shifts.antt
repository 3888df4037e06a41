-- Lists of shifts, and the ends that they take away or bring.
use Rattle.std.proofs.Common.{◌≡◌, ◌≢◌, ◌==◌, ◌⊎◌, inl, inr, ℕ, ◌+◌, ◌<◌, ◌≤◌, Bool, true, false, List, [], ◌∷◌, ◌++◌, length, drop, get_or, Option, None, Some, option_map, refl, sym, ap, ap₂, subst, ◌∙◌, Contains, true≢false, eq-eqb, slice_get, arith}
use Rattle.std.specs.Prelude.{◌↔◌, All, is_some}
use Rattle.std.specs.List.{IsDistinct}
use Rattle.std.proofs.lemmas.Bool.{eqb-true}
use Rattle.std.proofs.lemmas.List.{get_or-drop, get_or_default, length-drop, map-append}
use Rattle.std.proofs.lemmas.List.Elements.{All-contains, All-from_recursion, All-head, All-tail, Contains-append_cases, Contains-append_right}
use Rattle.std.proofs.lemmas.Map.Keys.{IsDistinct-head, IsDistinct-tail}
use Rattle.std.proofs.lemmas.Option.{slice_get-get_or, slice_get_within}
use Rattle.delta_tree.specs.declared.node.NodeId.{NodeId}
use Rattle.delta_tree.specs.declared.node.Node.{Node}
use Rattle.delta_tree.specs.declared.node.Shift.{Shift}
use Rattle.delta_tree.specs.Nodes.{TreeValue, node_id, same_node, value_of}
use Rattle.delta_tree.specs.Changes.{AreShifts, IsShift, shift_ids}
use Rattle.delta_tree.proofs.Ids.{same_node_laws, some_is_one}
use Rattle.tree_insert.proofs.Members.{contains_head, contains_tail, contains_cases, contains_none}
use Rattle.source_tree.specs.Ends.{AreEndChanges, end_in, later}
use Rattle.source_tree.specs.Telling.{IsByVertex, IsRun, Logs, outcome_of}
use Rattle.source_tree.specs.declared.change.EndChange.{EndChange}
use Rattle.source_tree.specs.declared.change.Outcome.{Outcome}
use Rattle.source_tree.proofs.Telling.{IsTelling, telling_starts, telling_ends, telling_like, telling_step}

-- ---- the shifts of a list

-- a shift of the place
pub record HasShift (shifts : List Shift) (id : NodeId) : Type 0 where
  pub shift : Shift
  pub there : Contains shifts shift
  pub is : shift.id ≡ id

pub has_shift : (shifts : List Shift) (id : NodeId) → Contains (shift_ids shifts) id →
    HasShift shifts id
has_shift [] id there = absurd (contains_none id there)
has_shift (first ∷ rest) id there =
    elim (contains_cases first.id (shift_ids rest) id there) [
      | inl is ↦ record { shift = first; there = contains_head first rest; is = is }
      | inr more ↦
          let found = has_shift rest id more in
          record {
            shift = found.shift;
            there = contains_tail first rest found.shift found.there;
            is = found.is;
          }
    ]

pub is_listed : (shifts : List Shift) (shift : Shift) → Contains shifts shift →
    Contains (shift_ids shifts) shift.id
is_listed [] shift there = absurd (contains_none shift there)
is_listed (first ∷ rest) shift there = elim (contains_cases first rest shift there) [
  | inl is ↦ subst (Contains (shift_ids (first ∷ rest))) (ap (λ (each : Shift). each.id) is)
      (contains_head first.id (shift_ids rest))
  | inr more ↦ contains_tail first.id (shift_ids rest) shift.id (is_listed rest shift more)
]

-- a place of one of two lists
pub listed_cases : (run rest : List Shift) (id : NodeId) →
    Contains (shift_ids (run ++ rest)) id →
    Contains (shift_ids run) id ⊎ Contains (shift_ids rest) id
listed_cases run rest id there = Contains-append_cases (shift_ids run) (shift_ids rest) id
    (subst (λ (ids : List NodeId). Contains ids id)
    (map-append (λ (each : Shift). each.id) run rest) there)

pub listed_right : (run rest : List Shift) (id : NodeId) → Contains (shift_ids rest) id →
    Contains (shift_ids (run ++ rest)) id
listed_right run rest id there = subst (λ (ids : List NodeId). Contains ids id)
    (sym (map-append (λ (each : Shift). each.id) run rest))
    (Contains-append_right (shift_ids run) (shift_ids rest) id there)

-- ---- ends

-- ends of a vertex where each final state has the same value
pub same_end : (finals : List ℕ) (old new : TreeValue) (vertex : ℕ) →
    ((state : ℕ) → Contains finals state →
    value_of old (node_id vertex state) ≡ value_of new (node_id vertex state)) →
    end_in finals old vertex ≡ end_in finals new vertex
same_end [] old new vertex same = refl
same_end (state ∷ rest) old new vertex same =
    ap₂ later (same state (contains_head state rest))
    (same_end rest old new vertex (λ each final. same each (contains_tail state rest each final)))

later_none : (end : Option ℕ) → later end None ≡ end
later_none None = refl
later_none (Some end) = refl

-- the values at a place that isn't listed
pub same_value : (old new : TreeValue) (shifts : List Shift) → AreShifts old new shifts →
    (id : NodeId) → (Contains (shift_ids shifts) id → ⊥) → value_of old id ≡ value_of new id
same_value old new shifts are id apart =
    ap (option_map (λ (node : Node). node.value)) (sym (are.others id apart))

-- ---- where one state is final

-- a place of the vertex with this state is left
abbrev pub WaitsAt : ℕ → List Shift → ℕ → Type 0
WaitsAt state left vertex = Contains (shift_ids left) (node_id vertex state)

-- what is left of the shifts, and the log of those before
pub record TellsOne (root state : ℕ) (old new : TreeValue) (left : List Shift)
    (log : List EndChange) : Type 0 where
  pub telling : IsTelling root (end_in (state ∷ []) old) (end_in (state ∷ []) new)
      (WaitsAt state left) log
  pub values : All (IsShift old new) left
  pub once : IsDistinct same_node (shift_ids left)

module _ (root state : ℕ) (old new : TreeValue) where
  abbrev finals : List ℕ
  finals = state ∷ []

  pub one_ends : (log : List EndChange) → TellsOne root state old new [] log →
      AreEndChanges root (end_in finals old) (end_in finals new) log
  one_ends log tells = telling_ends root (end_in finals old) (end_in finals new)
      (WaitsAt state []) log (λ vertex there. contains_none (node_id vertex state) there)
      tells.telling

  module _ (shift : Shift) (left : List Shift) (log : List EndChange)
      (tells : TellsOne root state old new (shift ∷ left) log) where
    -- the state of the shift isn't final
    pub one_other : shift.id.state ≢ state → TellsOne root state old new left log
    one_other other = record {
      telling = telling_like root (end_in finals old) (end_in finals new)
          (WaitsAt state (shift ∷ left)) (WaitsAt state left) log
          (λ vertex. (
            (λ there. elim (contains_cases shift.id (shift_ids left) (node_id vertex state) there) [
              | inl is ↦ absurd (other (ap (λ (id : NodeId). id.state) is))
              | inr more ↦ more
            ]),
            contains_tail shift.id (shift_ids left) (node_id vertex state),
          )) tells.telling;
      values = All-tail (IsShift old new) shift left tells.values;
      once = IsDistinct-tail same_node shift.id (shift_ids left) tells.once;
    }

    module _ (is : shift.id.state ≡ state) (next : List EndChange)
        (logs : Logs root shift.id.vertex (outcome_of (is_some shift.before)
        (is_some shift.after)) log next) where
      abbrev vertex : ℕ
      vertex = shift.id.vertex

      place : shift.id ≡ node_id vertex state
      place = ap (λ (each : ℕ). node_id vertex each) is

      once_more : Contains (shift_ids left) (node_id vertex state) → ⊥
      once_more there = true≢false (sym (same_node_laws.refl shift.id)
          ∙ All-contains (λ (id : NodeId). same_node shift.id id ≡ false) (shift_ids left)
          shift.id
          (All-from_recursion (λ (id : NodeId). same_node shift.id id ≡ false) (shift_ids left)
          (IsDistinct-head same_node shift.id (shift_ids left) tells.once))
          (subst (Contains (shift_ids left)) (sym place) there))

      it : IsShift old new shift
      it = All-head (IsShift old new) shift left tells.values

      before_is : shift.before ≡ end_in finals old vertex
      before_is = sym it.before ∙ ap (value_of old) place
          ∙ sym (later_none (value_of old (node_id vertex state)))

      after_is : shift.after ≡ end_in finals new vertex
      after_is = sym it.after ∙ ap (value_of new) place
          ∙ sym (later_none (value_of new (node_id vertex state)))

      beside : (each : ℕ) → (vertex == each) ≡ false →
          WaitsAt state (shift ∷ left) each ↔ WaitsAt state left each
      beside each other = (
        (λ there. elim (contains_cases shift.id (shift_ids left) (node_id each state) there) [
          | inl same ↦ absurd (true≢false
              (sym (eq-eqb vertex each (ap (λ (id : NodeId). id.vertex) same)) ∙ other))
          | inr more ↦ more
        ]),
        contains_tail shift.id (shift_ids left) (node_id each state),
      )

      -- the shift tells the end of its vertex
      pub one_more : TellsOne root state old new left next
      one_more = record {
        telling = telling_step root (end_in finals old) (end_in finals new)
            (WaitsAt state (shift ∷ left)) (WaitsAt state left) vertex log beside tells.telling
            (subst (Contains (shift_ids (shift ∷ left))) place
            (contains_head shift.id (shift_ids left)))
            once_more next
            (subst (λ (outcome : Option Outcome). Logs root vertex outcome log next)
            (ap₂ (λ (had has : Option ℕ). outcome_of (is_some had) (is_some has))
            before_is after_is) logs);
        values = All-tail (IsShift old new) shift left tells.values;
        once = IsDistinct-tail same_node shift.id (shift_ids left) tells.once;
      }

-- ---- where several are

-- a place of the vertex is left
abbrev pub WaitsAny : List Shift → ℕ → Type 0
WaitsAny left vertex = (state : ℕ) × Contains (shift_ids left) (node_id vertex state)

-- what is left of the shifts, with all those of its vertices, and the log of those before
pub record TellsRuns (root : ℕ) (finals : List ℕ) (old new : TreeValue) (left : List Shift)
    (log : List EndChange) : Type 0 where
  pub telling : IsTelling root (end_in finals old) (end_in finals new) (WaitsAny left) log
  pub values : All (IsShift old new) left
  pub order : IsByVertex left
  pub whole : (vertex : ℕ) → WaitsAny left vertex → (state : ℕ) →
      (Contains (shift_ids left) (node_id vertex state) → ⊥) →
      value_of new (node_id vertex state) ≡ value_of old (node_id vertex state)

module _ (root : ℕ) (finals : List ℕ) (old new : TreeValue) where
  pub runs_start : (shifts : List Shift) → AreShifts old new shifts → IsByVertex shifts →
      TellsRuns root finals old new shifts []
  runs_start shifts are order = record {
    telling = telling_starts root (end_in finals old) (end_in finals new) (WaitsAny shifts)
        (λ vertex apart. same_end finals old new vertex
        (λ state final. same_value old new shifts are (node_id vertex state)
        (λ there. apart (state, there))));
    values = are.values;
    order = order;
    whole = λ vertex waits state apart.
        sym (same_value old new shifts are (node_id vertex state) apart);
  }

  pub runs_end : (log : List EndChange) → TellsRuns root finals old new [] log →
      AreEndChanges root (end_in finals old) (end_in finals new) log
  runs_end log tells = telling_ends root (end_in finals old) (end_in finals new)
      (WaitsAny []) log
      (λ vertex waits. contains_none (node_id vertex waits.0) waits.1) tells.telling

  module _ (vertex : ℕ) (run rest : List Shift) (log : List EndChange)
      (those : All (λ (each : Shift). each.id.vertex ≡ vertex) run)
      (none : All (λ (each : Shift). each.id.vertex ≢ vertex) rest)
      (waits : WaitsAny (run ++ rest) vertex)
      (tells : TellsRuns root finals old new (run ++ rest) log) where
    gone : (state : ℕ) → Contains (shift_ids rest) (node_id vertex state) → ⊥
    gone state there =
        let found = has_shift rest (node_id vertex state) there in
        All-contains (λ (each : Shift). each.id.vertex ≢ vertex) rest found.shift none found.there
        (ap (λ (id : NodeId). id.vertex) found.is)

    -- the run has all that the vertex needs
    pub is_run : All (IsShift old new) run → IsRun old new vertex run
    is_run values = record {
      those = those;
      values = values;
      others = λ state apart. tells.whole vertex waits state
          (λ there. elim (listed_cases run rest (node_id vertex state) there) [
            | inl here ↦ apart here
            | inr later ↦ gone state later
          ]);
    }

    apart_from_run : (each state : ℕ) → (vertex == each) ≡ false →
        Contains (shift_ids run) (node_id each state) → ⊥
    apart_from_run each state other there =
        let found = has_shift run (node_id each state) there in
        let is = All-contains (λ (one : Shift). one.id.vertex ≡ vertex) run found.shift those
        found.there in
        true≢false (sym (eq-eqb vertex each
        (sym is ∙ ap (λ (id : NodeId). id.vertex) found.is)) ∙ other)

    rest_of : (each state : ℕ) → (vertex == each) ≡ false →
        Contains (shift_ids (run ++ rest)) (node_id each state) →
        Contains (shift_ids rest) (node_id each state)
    rest_of each state other there = elim (listed_cases run rest (node_id each state) there) [
      | inl here ↦ absurd (apart_from_run each state other here)
      | inr more ↦ more
    ]

    another : (each : ℕ) → WaitsAny rest each → (b : Bool) → (vertex == each) ≡ b → b ≡ false
    another each (state, there) true is = absurd (gone state
        (subst (λ (one : ℕ). Contains (shift_ids rest) (node_id one state))
        (sym (eqb-true vertex each is)) there))
    another each left false other = refl

    -- the vertex is told, if its end comes or goes
    pub runs_more : (next : List EndChange) →
        Logs root vertex (outcome_of (is_some (end_in finals old vertex))
        (is_some (end_in finals new vertex))) log next →
        All (IsShift old new) rest → IsByVertex rest → TellsRuns root finals old new rest next
    runs_more next logs values order = record {
      telling = telling_step root (end_in finals old) (end_in finals new)
          (WaitsAny (run ++ rest)) (WaitsAny rest) vertex log
          (λ each other. (
            (λ (state, there). (state, rest_of each state other there)),
            (λ (state, there). (state, listed_right run rest (node_id each state) there)),
          )) tells.telling waits (λ (state, there). gone state there) next logs;
      values = values;
      order = order;
      whole = λ each left state apart.
          tells.whole each (left.0, listed_right run rest (node_id each left.0) left.1) state
          (λ there. apart (rest_of each state
          (another each left (vertex == each) refl) there));
    }

-- ---- the run at the head

-- a list without a first element
pub none_first : (shifts : List Shift) → None ≡ slice_get shifts 0 → shifts ≡ []
none_first [] is = refl
none_first (first ∷ rest) is = absurd (none_or_some is)
  where
    none_or_some : None ≡ Some first → ⊥
    none_or_some same = cc

-- the first element of a list
pub first_is : (shifts : List Shift) (first : Shift) → Some first ≡ slice_get shifts 0 →
    get_or shifts 0 first ≡ first
first_is shifts first is =
    let within = slice_get_within shifts 0 first (sym is) in
    some_is_one (get_or shifts 0 first) first
    (sym (slice_get-get_or shifts 0 first within) ∙ sym is)

pub has_first : (shifts : List Shift) (first : Shift) → Some first ≡ slice_get shifts 0 →
    Contains shifts first
has_first shifts first is =
    (0, slice_get_within shifts 0 first (sym is), first_is shifts first is)

-- the only element of a list
pub only_one : (finals : List ℕ) → length finals ≡ 1 → finals ≡ get_or finals 0 0 ∷ []
only_one [] one = absurd (omega (arith, one))
only_one (first ∷ []) one = refl
only_one (first ∷ (second ∷ rest)) one = absurd (omega (arith, one))

-- behind the run of a vertex none of it comes
pub none_behind : (shifts : List Shift) (vertex len : ℕ) (d : Shift) → IsByVertex shifts →
    (get_or shifts 0 d).id.vertex ≡ vertex →
    ((each : Shift) → len < length shifts → (get_or shifts len each).id.vertex ≢ vertex) →
    All (λ (each : Shift). each.id.vertex ≢ vertex) (drop len shifts)
none_behind shifts vertex len d order first end k each within is =
    let inside : len + k < length shifts = omega (arith, within, length-drop len shifts) in
    let here : (get_or shifts (len + k) each).id.vertex ≡ vertex =
    ap (λ (one : Shift). one.id.vertex) (sym (get_or-drop len shifts k each)) ∙ is in
    let low : (get_or shifts 0 d).id.vertex ≤ (get_or shifts len d).id.vertex =
    order 0 len d (omega arith) (omega (arith, inside)) in
    let high : (get_or shifts len each).id.vertex ≤ (get_or shifts (len + k) each).id.vertex =
    order len (len + k) each (omega arith) inside in
    let low_here : (get_or shifts 0 each).id.vertex ≤ (get_or shifts len each).id.vertex =
    order 0 len each (omega arith) (omega (arith, inside)) in
    let start : (get_or shifts 0 each).id.vertex ≡ vertex =
    ap (λ (one : Shift). one.id.vertex) (get_or_default shifts 0 each d (omega (arith, inside)))
    ∙ first in
    end each (omega (arith, inside)) (omega (arith, here, high, low_here, start))
