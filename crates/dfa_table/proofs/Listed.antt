-- The states before a state, state by state and label by label.
use Rattle.std.proofs.Common.{◌≡◌, ℕ, zero, suc, ◌+◌, ◌<◌, ◌≤◌, Bool, true, false, cond, List, [], ◌∷◌, ◌++◌, length, get_or, set, map, filter, Option, Some, None, refl, sym, ap, subst, ◌∙◌, ⊎_elim, inl, inr, arith, All, AllPairs, Contains, eqb-true, eq-eqb, ne_eqb}
use Rattle.std.specs.Prelude.{◌↔◌}
use Rattle.std.specs.List.{range_with_len}
use Rattle.std.proofs.lemmas.Bool.{cases_eq, cases_lt, cond_both, false≢true}
use Rattle.std.proofs.lemmas.List.{append-nil, length-set, get_or-set_same, get_or-set_other, get_or-map, get_or_past, get_or_push, get_or_append_left, length_push}
use Rattle.std.proofs.lemmas.List.Elements.{All-contains, All-filter, All-get_or, Contains-append_right, filter-append, filter_passes}
use Rattle.std.proofs.lemmas.List.FromFn.{length-range_with_len, get_or-range_with_len}
use Rattle.std.proofs.lemmas.List.Kept.{AllPairs-filter, AllPairs-from_increasing}
use Rattle.std.proofs.lemmas.Option.{none-some}
use Rattle.dfa_table.specs.Befores.{step_in, is_to, befores_in, list_at, AreEmpty, AddsAt, AreListed, AreBefores}

-- ---- a step that leads to a state

is_to_means : (step : Option ℕ) (state : ℕ) → is_to step state ≡ true → step ≡ Some state
is_to_means None state is = absurd (false≢true is)
is_to_means (Some next) state is = ap (λ (n : ℕ). Some n) (eqb-true next state is)

is_to_one : (step : Option ℕ) (state : ℕ) → step ≡ Some state → is_to step state ≡ true
is_to_one step state is =
    ap (λ (o : Option ℕ). is_to o state) is ∙ eq-eqb state state refl

is_to_other : (step : Option ℕ) (next state : ℕ) → step ≡ Some next → (state ≡ next → ⊥) →
    is_to step state ≡ false
is_to_other step next state is apart =
    ap (λ (o : Option ℕ). is_to o state) is ∙ ne_eqb next state (λ same. apart (sym same))

-- ---- one state more

range_more : (from count next : ℕ) → from + count ≡ next →
    range_with_len from (suc count) ≡ range_with_len from count ++ next ∷ []
range_more from zero next is =
    let same : from ≡ next = omega arith in ap (λ (n : ℕ). n ∷ []) same
range_more from (suc count) next is =
    ap (λ (list : List ℕ). from ∷ list) (range_more (from + 1) count next (omega arith))

module _ (rows : List (List (Option ℕ))) (label count : ℕ) where
  more : (state : ℕ) → befores_in rows label (count + 1) state
      ≡ befores_in rows label count state
      ++ cond (is_to (step_in rows count label) state) (count ∷ []) []
  more state =
      let leads : ℕ → Bool = λ each. is_to (step_in rows each label) state in
      let one : count + 1 ≡ suc count = omega arith in
      ap (λ (n : ℕ). filter leads (range_with_len 0 n)) one
      ∙ ap (filter leads) (range_more 0 count count (omega arith))
      ∙ filter-append leads (range_with_len 0 count) (count ∷ [])

  more_is : (state : ℕ) → is_to (step_in rows count label) state ≡ true →
      befores_in rows label (count + 1) state ≡ befores_in rows label count state ++ count ∷ []
  more_is state is =
      more state
      ∙ ap (λ (b : Bool). befores_in rows label count state ++ cond b (count ∷ []) []) is

  more_not : (state : ℕ) → is_to (step_in rows count label) state ≡ false →
      befores_in rows label (count + 1) state ≡ befores_in rows label count state
  more_not state is =
      more state
      ∙ (ap (λ (b : Bool). befores_in rows label count state ++ cond b (count ∷ []) []) is
      ∙ append-nil (befores_in rows label count state))

  -- a step leads to the next state
  pub listed_more : (next : ℕ) (before after : List (List ℕ)) →
      AreListed rows label count before → step_in rows count label ≡ Some next →
      AddsAt next count before after → AreListed rows label (count + 1) after
  listed_more next before after are leads adds =
      let here : list_at after next ≡ befores_in rows label (count + 1) next =
      adds.here
      ∙ (ap (λ (list : List ℕ). list ++ count ∷ []) (are.each next)
      ∙ sym (more_is next (is_to_one (step_in rows count label) next leads))) in
      record {
        as_many = adds.as_many ∙ are.as_many;
        each = λ state. ⊎_elim
            (λ (is : state ≡ next).
            subst (λ (n : ℕ). list_at after n ≡ befores_in rows label (count + 1) n) (sym is) here)
            (λ (apart : state ≡ next → ⊥). adds.others state apart
            ∙ (are.each state
            ∙ sym (more_not state (is_to_other (step_in rows count label) next state leads apart))))
            (cases_eq state next);
      }

  -- there is no step
  pub listed_none : (lists : List (List ℕ)) → AreListed rows label count lists →
      step_in rows count label ≡ None → AreListed rows label (count + 1) lists
  listed_none lists are none = record {
    as_many = are.as_many;
    each = λ state. are.each state
        ∙ sym (more_not state (ap (λ (o : Option ℕ). is_to o state) none));
  }

-- at first there are none
pub listed_first : (rows : List (List (Option ℕ))) (label count : ℕ) (lists : List (List ℕ)) →
    count ≡ length rows → AreEmpty count lists → AreListed rows label 0 lists
listed_first rows label count lists same are = record {
  as_many = are.as_many ∙ same;
  each = are.each;
}

-- the list of one state gets another one
pub adds_at : (lists : List (List ℕ)) (target state : ℕ) (longer : List ℕ) →
    target < length lists → longer ≡ list_at lists target ++ state ∷ [] →
    AddsAt target state lists (set lists target longer)
adds_at lists target state longer below is = record {
  as_many = length-set lists target longer;
  here = get_or-set_same lists target longer [] below ∙ is;
  others = λ other apart. get_or-set_other lists target other longer [] apart;
}

-- a row that was read
pub row_is : {R : Type 0} (items : R → List (Option ℕ)) (rows : List R) (state : ℕ) (row : R) →
    state < length rows → row ≡ get_or rows state row →
    items row ≡ get_or (map items rows) state []
row_is items rows state row below is =
    ap items is ∙ sym (get_or-map items rows state row [] below)

-- ---- one label more

pub befores_more : (rows : List (List (Option ℕ))) (label : ℕ)
    (befores longer : List (List (List ℕ))) (lists : List (List ℕ)) →
    AreBefores rows label befores → AreListed rows label (length rows) lists →
    longer ≡ befores ++ lists ∷ [] → AreBefores rows (label + 1) longer
befores_more rows label befores longer lists are one is = record {
  as_many = omega (arith, ap length is, length_push befores lists, are.as_many);
  each = λ each below. subst (AreListed rows each (length rows))
      (sym (ap (λ (list : List (List (List ℕ))). get_or list each []) is)) (⊎_elim
      (λ (same : each ≡ label). subst
      (λ (n : ℕ). AreListed rows n (length rows) (get_or (befores ++ lists ∷ []) n []))
      (sym same)
      (subst (AreListed rows label (length rows))
      (sym (get_or_push befores lists [] label are.as_many)) one))
      (λ (apart : each ≡ label → ⊥).
      let low : each < label = omega (arith, below, apart) in
      subst (AreListed rows each (length rows))
      (sym (get_or_append_left befores (lists ∷ []) [] each (omega (arith, low, are.as_many))))
      (are.each each low))
      (cases_eq each label));
}

-- ---- what the lists contain

range_below : (count : ℕ) → All (λ (each : ℕ). each < count) (range_with_len 0 count)
range_below count k d low =
    let size = length-range_with_len 0 count in
    let within : k < count = omega (arith, low, size) in
    omega (arith, within, get_or-range_with_len 0 count k d within)

range_rises : (count k : ℕ) → k + 1 < length (range_with_len 0 count) →
    get_or (range_with_len 0 count) k 0 < get_or (range_with_len 0 count) (k + 1) 0
range_rises count k low =
    let size = length-range_with_len 0 count in
    omega (
      arith,
      get_or-range_with_len 0 count k 0 (omega arith),
      get_or-range_with_len 0 count (k + 1) 0 (omega arith),
    )

listed : (test : ℕ → Bool) (count from each : ℕ) → from ≤ each → each < from + count →
    test each ≡ true → Contains (filter test (range_with_len from count)) each
listed test zero from each low high passes = absurd (omega arith)
listed test (suc count) from each low high passes =
    let rest = filter test (range_with_len (from + 1) count) in
    elim (cases_eq each from) [
      | inl is ↦ subst (λ (b : Bool). Contains (cond b (from ∷ rest) rest) each)
          (sym (ap test (sym is) ∙ passes)) (0, omega arith, sym is)
      | inr apart ↦ (let within =
          listed test count (from + 1) each (omega arith) (omega arith) passes in
          cond_both (test from) (from ∷ rest) rest (λ (list : List ℕ). Contains list each)
          (λ _. Contains-append_right (from ∷ []) rest each within) (λ _. within))
    ]

contains_before : (rows : List (List (Option ℕ))) (label count state each : ℕ) →
    Contains (befores_in rows label count state) each
    ↔ ((each < count) × (step_in rows each label ≡ Some state))
contains_before rows label count state each =
    let leads : ℕ → Bool = λ (n : ℕ). is_to (step_in rows n label) state in
    let all = range_with_len 0 count in (
      (λ has. (
        All-contains (λ (n : ℕ). n < count) (filter leads all) each
            (All-filter leads (λ (n : ℕ). n < count) all (range_below count)) has,
        is_to_means (step_in rows each label) state
            (All-contains (λ (n : ℕ). leads n ≡ true) (filter leads all) each
            (filter_passes leads all) has),
      )),
      (λ both. listed leads count 0 each (omega arith) (omega (arith, both.0))
          (is_to_one (step_in rows each label) state both.1)),
    )

befores_rise : (rows : List (List (Option ℕ))) (label count state : ℕ) →
    AllPairs ◌<◌ (befores_in rows label count state)
befores_rise rows label count state =
    AllPairs-filter ◌<◌ (λ (each : ℕ). is_to (step_in rows each label) state)
    (range_with_len 0 count) (AllPairs-from_increasing (range_with_len 0 count) (range_rises count))

-- the list has the states whose step by the label leads to the state, in order
pub record HasBefores (rows : List (List (Option ℕ))) (label state : ℕ) (list : List ℕ)
    : Type 0 where
  pub before : (each : ℕ) → Contains list each
      ↔ ((each < length rows) × (step_in rows each label ≡ Some state))
  pub rising : AllPairs ◌<◌ list

-- what a look-up finds
pub found_before : (rows : List (List (Option ℕ))) (labels : ℕ)
    (befores : List (List (List ℕ))) (label state : ℕ) (list : List ℕ) →
    All (λ row. length row ≡ labels) rows → AreBefores rows labels befores →
    list ≡ list_at (get_or befores label []) state → HasBefores rows label state list
found_before rows labels befores label state list even are is = ⊎_elim
    (λ (below : label < labels).
    subst (HasBefores rows label state) (sym (is ∙ (are.each label below).each state)) (record {
      before = contains_before rows label (length rows) state;
      rising = befores_rise rows label (length rows) state;
    }))
    (λ (past : labels ≤ label).
    let none : list ≡ [] =
    is ∙ ap (λ (lists : List (List ℕ)). list_at lists state)
    (get_or_past befores label [] (omega (arith, past, are.as_many))) in
    subst (HasBefores rows label state) (sym none) (record {
      before = λ each. (
        (λ has. absurd (omega (arith, has.1))),
        (λ both.
            let long = All-get_or (λ (row : List (Option ℕ)). length row ≡ labels) rows each []
            both.0 even in
            absurd (none-some state
            (sym (get_or_past (get_or rows each []) label None (omega (arith, past, long)))
            ∙ both.1))),
      );
      rising = λ i j d low high. absurd (omega (arith, high));
    }))
    (cases_lt label labels)
