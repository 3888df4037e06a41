-- Whether a vertex has an end before and after a change, by its shifts and the nodes beside them.
use Rattle.std.proofs.Common.{◌≡◌, ◌≢◌, ◌⊎◌, inl, inr, ℕ, ◌+◌, ◌<◌, ◌≤◌, Bool, true, false, List, [], ◌∷◌, ◌++◌, length, take, get_or, Option, None, Some, refl, sym, ap, ap₂, subst, ◌∙◌, Contains, true≢false, slice_get, arith}
use Rattle.std.specs.Prelude.{◌↔◌, ◌||◌, All, Any, IsTrue, IsSome, is_some}
use Rattle.std.proofs.lemmas.Bool.{cases_eq, or_cases, or_left, or_right}
use Rattle.std.proofs.lemmas.List.{length-map, take_more}
use Rattle.std.proofs.lemmas.List.Elements.{All-contains, Contains-append_left, Contains-get_or, Contains-push_cases}
use Rattle.std.proofs.lemmas.List.Folds.{Any-from_list_any, list_any-from_Any}
use Rattle.std.proofs.lemmas.List.Quantifiers.{Any-push}
use Rattle.std.proofs.lemmas.Option.{same_Some, slice_get_read}
use Rattle.delta_tree.specs.declared.node.NodeId.{NodeId}
use Rattle.delta_tree.specs.declared.node.Node.{Node}
use Rattle.delta_tree.specs.declared.node.Shift.{Shift}
use Rattle.delta_tree.specs.Nodes.{GivesNodes, TreeValue, ids_of, node_id, node_of, same_node, value_of}
use Rattle.delta_tree.specs.Changes.{IsShift, shift_ids}
use Rattle.delta_tree.proofs.Ids.{none_or_some, same_node_is, same_node_laws, some_is_found, value_has_node}
use Rattle.tree_insert.proofs.Members.{contains_none}
use Rattle.source_index.specs.Holders.{HoldersValue, roots_at}
use Rattle.source_tree.specs.Ends.{end_in}
use Rattle.source_tree.specs.Product.{AreHeld}
use Rattle.source_tree.specs.Telling.{AnyFinal, HasBeside, IsBeside, IsFinalWith, IsRun, TellShifted, Widens, has_place, outcome_of}
use Rattle.source_tree.specs.declared.change.Outcome.{Outcome}
use Rattle.source_tree.specs.declared.change.Outcome.TheVariants.{Lost, Gained}
use Rattle.source_tree.proofs.Covering.{IsAtMost, greatest_from, greatest_most, is_in, values_at}
use Rattle.source_tree.proofs.Moves.{is_shifted}
use Rattle.source_tree.proofs.Shifts.{HasShift, has_shift, is_listed, same_end}

-- ---- tests that a list has an element of a kind

-- a test that fails, of what isn't so
pub not_so : (P : Type 0) → (P → ⊥) → IsTrue false ↔ P
not_so P never = ((λ passed. absurd (true≢false (sym passed))), (λ is. absurd (never is)))

module _ {X : Type 0} (kind : X → Type 0) (xs : List X) where
  -- the element at this place is of the kind
  pub any_here : (i : ℕ) (d : X) → i < length xs → kind (get_or xs i d) →
      IsTrue true ↔ Any kind xs
  any_here i d within here =
      let there = Contains-get_or xs i d within in
      ((λ passed. (there.0, get_or xs i d, there.1, there.2, here)), (λ any. refl))

  -- none is
  pub any_nowhere : All (λ (x : X). kind x → ⊥) xs → IsTrue false ↔ Any kind xs
  any_nowhere none = not_so (Any kind xs) (λ any. All-contains (λ (x : X). kind x → ⊥) xs any.1
      none (any.0, any.2, any.3) any.4)

  -- with one more
  any_more : (x : X) → Any kind (xs ++ x ∷ []) ↔ (Any kind xs ⊎ kind x)
  any_more x = (
    (λ any. elim (Contains-push_cases xs x any.1 (any.0, any.2, any.3)) [
      | inl there ↦ inl (there.0, any.1, there.1, there.2, any.4)
      | inr is ↦ inr (subst kind (sym is) any.4)
    ]),
    (λ either. elim either [
      | inl any ↦
          let there = Contains-append_left xs (x ∷ []) any.1 (any.0, any.2, any.3) in
          (there.0, any.1, there.1, there.2, any.4)
      | inr here ↦ Any-push kind xs x here
    ]),
  )

-- ---- the ends by the shifts

module _ (finals : List ℕ) (value : Shift → Option ℕ) (shifts : List Shift) (shift : Shift)
    (found : Bool) (tells : IsTrue found ↔ AnyFinal finals value shifts) where
  abbrev kind : Shift → Type 0
  kind each = IsFinalWith finals each.id.state (value each)

  -- a shift more, whose state is final
  final_more : Contains finals shift.id.state →
      IsTrue (found || is_some (value shift)) ↔ AnyFinal finals value (shifts ++ shift ∷ [])
  final_more final = (
    (λ passed. (any_more kind shifts shift).1
        (elim (or_cases found (is_some (value shift)) passed) [
          | inl before ↦ inl (tells.0 before)
          | inr some ↦ inr (record { final = final; some = some })
        ])),
    (λ any. elim ((any_more kind shifts shift).0 any) [
      | inl before ↦ or_left found (is_some (value shift)) (tells.1 before)
      | inr here ↦ or_right found (is_some (value shift)) here.some
    ]),
  )

  -- whose state isn't
  other_more : (Contains finals shift.id.state → ⊥) →
      IsTrue found ↔ AnyFinal finals value (shifts ++ shift ∷ [])
  other_more other = (
    (λ passed. (any_more kind shifts shift).1 (inl (tells.0 passed))),
    (λ any. elim ((any_more kind shifts shift).0 any) [
      | inl before ↦ tells.1 before
      | inr here ↦ absurd (other here.final)
    ]),
  )

-- no shift
pub shifted_none : (finals : List ℕ) → TellShifted finals [] (false, false)
shifted_none finals = record {
  before = not_so (AnyFinal finals (λ (each : Shift). each.before) [])
      (λ any. contains_none any.1 (any.0, any.2, any.3));
  after = not_so (AnyFinal finals (λ (each : Shift). each.after) [])
      (λ any. contains_none any.1 (any.0, any.2, any.3));
}

-- a shift more
pub shifted_more : (finals : List ℕ) (shifts : List Shift) (i : ℕ) (d : Shift)
    (ends next : Bool × Bool) → i < length shifts → TellShifted finals (take i shifts) ends →
    Widens finals (get_or shifts i d) ends next → TellShifted finals (take (i + 1) shifts) next
shifted_more finals shifts i d ends next within tells widens =
    let shift = get_or shifts i d in
    let seen = take i shifts in
    subst (λ (all : List Shift). TellShifted finals all next)
    (sym (take_more shifts i d within)) (elim (is_in finals shift.id.state) [
      | inl final ↦ subst (TellShifted finals (seen ++ shift ∷ [])) (sym (widens.0 final)) (record {
        before = final_more finals (λ (each : Shift). each.before) seen shift ends.0
            tells.before final;
        after = final_more finals (λ (each : Shift). each.after) seen shift ends.1
            tells.after final;
      })
      | inr other ↦ subst (TellShifted finals (seen ++ shift ∷ [])) (sym (widens.1 other)) (record {
        before = other_more finals (λ (each : Shift). each.before) seen shift ends.0
            tells.before other;
        after = other_more finals (λ (each : Shift). each.after) seen shift ends.1
            tells.after other;
      })
    ])

-- ---- the end of a vertex

some_above : (value end : Option ℕ) → IsSome value → IsAtMost value end → is_some end ≡ true
some_above None end some low = absurd (true≢false (sym some))
some_above (Some value) None some low = absurd low
some_above (Some value) (Some end) some low = refl

none_if_not : (value : Option ℕ) → (IsSome value → ⊥) → value ≡ None
none_if_not None never = refl
none_if_not (Some value) never = absurd (never refl)

module _ (finals : List ℕ) (tree : TreeValue) (vertex : ℕ) where
  -- a node with a final state
  end_there : (state : ℕ) → Contains finals state → IsSome (value_of tree (node_id vertex state)) →
      is_some (end_in finals tree vertex) ≡ true
  end_there state final some = some_above (values_at tree vertex state)
      (end_in finals tree vertex) some (greatest_most finals (values_at tree vertex) state final)

  -- none
  no_end : ((state : ℕ) → Contains finals state →
      value_of tree (node_id vertex state) ≡ None) → is_some (end_in finals tree vertex) ≡ false
  no_end none = by (end_in finals tree vertex) refl
    where
      by : (end : Option ℕ) → end_in finals tree vertex ≡ end → is_some end ≡ false
      by None is = refl
      by (Some value) is =
          let from = greatest_from finals (values_at tree vertex) value is in
          absurd (none_or_some value (sym (none from.0 from.1) ∙ from.2))

  -- what a test of the shifts of the vertex says of it
  module _ (run : List Shift) (value : Shift → Option ℕ)
      (those : All (λ (each : Shift). each.id.vertex ≡ vertex) run)
      (shows : (each : Shift) → Contains run each → value_of tree each.id ≡ value each)
      (found : Bool) (tells : IsTrue found ↔ AnyFinal finals value run) where
    there_if : found ≡ true → is_some (end_in finals tree vertex) ≡ true
    there_if passed =
        let any = tells.0 passed in
        let shift = any.1 in
        let there : Contains run shift = (any.0, any.2, any.3) in
        let place : node_id vertex shift.id.state ≡ shift.id =
        ap (λ (each : ℕ). node_id each shift.id.state)
        (sym (All-contains (λ (each : Shift). each.id.vertex ≡ vertex) run shift those there)) in
        end_there shift.id.state any.4.final
        (ap is_some (ap (value_of tree) place ∙ shows shift there) ∙ any.4.some)

    none_if : found ≡ false → (state : ℕ) → Contains finals state →
        Contains (shift_ids run) (node_id vertex state) →
        value_of tree (node_id vertex state) ≡ None
    none_if failed state final listed =
        let at = has_shift run (node_id vertex state) listed in
        let state_is : state ≡ at.shift.id.state = ap (λ (id : NodeId). id.state) (sym at.is) in
        ap (value_of tree) (sym at.is) ∙ shows at.shift at.there
        ∙ none_if_not (value at.shift) (λ some. true≢false
        (sym (tells.1 (
          at.there.0,
          at.shift,
          at.there.1,
          at.there.2,
          record {
            final = subst (Contains finals) state_is final;
            some = some;
          },
        )) ∙ failed))

-- ---- its outcome

-- a place is one of a shift, or none
listed_or_not : (shifts : List Shift) (id : NodeId) →
    Contains (shift_ids shifts) id ⊎ (Contains (shift_ids shifts) id → ⊥)
listed_or_not shifts id = elim (is_shifted shifts id) [
  | inl found ↦ inl (listed found)
  | inr none ↦ inr none
]
  where
    listed : HasShift shifts id → Contains (shift_ids shifts) id
    listed found = subst (Contains (shift_ids shifts)) found.is
        (is_listed shifts found.shift found.there)

same_test : (found end : Bool) → (found ≡ true → end ≡ true) → (found ≡ false → end ≡ false) →
    found ≡ end
same_test true end if_true if_false = sym (if_true refl)
same_test false end if_true if_false = sym (if_false refl)

none_if_same : (had has : Bool) → had ≡ has → None ≡ outcome_of had has
none_if_same true true same = refl
none_if_same true false same = absurd (true≢false same)
none_if_same false true same = absurd (true≢false (sym same))
none_if_same false false same = refl

module _ (finals : List ℕ) (old new : TreeValue) (vertex : ℕ) (run : List Shift)
    (is : IsRun old new vertex run) where
  abbrev had_end : Bool
  had_end = is_some (end_in finals old vertex)

  abbrev has_end : Bool
  has_end = is_some (end_in finals new vertex)

  before_is : (each : Shift) → Contains run each → value_of old each.id ≡ each.before
  before_is each there = (All-contains (IsShift old new) run each is.values there).before

  after_is : (each : Shift) → Contains run each → value_of new each.id ≡ each.after
  after_is each there = (All-contains (IsShift old new) run each is.values there).after

  -- a node beside the shifts stood before too
  stood : (id : NodeId) → IsBeside finals new vertex run id →
      IsSome (value_of old (node_id vertex id.state))
      × IsSome (value_of new (node_id vertex id.state))
  stood id beside =
      let place : node_id vertex id.state ≡ id =
      ap (λ (each : ℕ). node_id each id.state) (sym beside.there) in
      let now : IsSome (value_of new (node_id vertex id.state)) =
      ap is_some (ap (value_of new) place) ∙ beside.stands in
      let same = is.others id.state
      (λ listed. beside.apart (subst (Contains (shift_ids run)) place listed)) in
      (ap is_some (sym same) ∙ now, now)

  -- the end stays where there is one
  pub stays_beside : HasBeside finals new vertex run → None ≡ outcome_of had_end has_end
  stays_beside (id, beside) =
      let both = stood id beside in
      sym (ap₂ outcome_of (end_there finals old vertex id.state beside.final both.0)
      (end_there finals new vertex id.state beside.final both.1))

  -- where there is none, no other final state has a node
  bare : (HasBeside finals new vertex run → ⊥) → (state : ℕ) → Contains finals state →
      (Contains (shift_ids run) (node_id vertex state) → ⊥) →
      value_of new (node_id vertex state) ≡ None
  bare none state final apart = none_if_not (value_of new (node_id vertex state))
      (λ some. none (
        node_id vertex state,
        record { there = refl; final = final; apart = apart; stands = some },
      ))

  module _ (ends : Bool × Bool) (tells : TellShifted finals run ends) where
    had_if : ends.0 ≡ true → had_end ≡ true
    had_if = there_if finals old vertex run (λ (each : Shift). each.before) is.those before_is
        ends.0 tells.before

    has_if : ends.1 ≡ true → has_end ≡ true
    has_if = there_if finals new vertex run (λ (each : Shift). each.after) is.those after_is
        ends.1 tells.after

    none_before : ends.0 ≡ false → (state : ℕ) → Contains finals state →
        Contains (shift_ids run) (node_id vertex state) →
        value_of old (node_id vertex state) ≡ None
    none_before = none_if finals old vertex run (λ (each : Shift). each.before) is.those before_is
        ends.0 tells.before

    none_after : ends.1 ≡ false → (state : ℕ) → Contains finals state →
        Contains (shift_ids run) (node_id vertex state) →
        value_of new (node_id vertex state) ≡ None
    none_after = none_if finals new vertex run (λ (each : Shift). each.after) is.those after_is
        ends.1 tells.after

    -- where no node stands beside the shifts, they tell both
    had_is : (HasBeside finals new vertex run → ⊥) → ends.0 ≡ had_end
    had_is none = same_test ends.0 had_end had_if (λ failed. no_end finals old vertex
        (λ state final. elim (listed_or_not run (node_id vertex state)) [
          | inl listed ↦ none_before failed state final listed
          | inr apart ↦ sym (is.others state apart) ∙ bare none state final apart
        ]))

    has_is : (HasBeside finals new vertex run → ⊥) → ends.1 ≡ has_end
    has_is none = same_test ends.1 has_end has_if (λ failed. no_end finals new vertex
        (λ state final. elim (listed_or_not run (node_id vertex state)) [
          | inl listed ↦ none_after failed state final listed
          | inr apart ↦ bare none state final apart
        ]))

    pub comes_or_goes : (HasBeside finals new vertex run → ⊥) → (outcome : Option Outcome) →
        outcome ≡ outcome_of ends.0 ends.1 → outcome ≡ outcome_of had_end has_end
    comes_or_goes none outcome given = given ∙ ap₂ outcome_of (had_is none) (has_is none)

    -- where they tell of neither or of both, the end stays, or there is none before and after
    pub stays_by_shifts : None ≡ outcome_of ends.0 ends.1 → None ≡ outcome_of had_end has_end
    stays_by_shifts given = by ends.0 ends.1 refl refl given
      where
        same : ends.0 ≡ false → ends.1 ≡ false → had_end ≡ has_end
        same no_before no_after = ap is_some (same_end finals old new vertex
            (λ state final. elim (listed_or_not run (node_id vertex state)) [
              | inl listed ↦ none_before no_before state final listed
                  ∙ sym (none_after no_after state final listed)
              | inr apart ↦ sym (is.others state apart)
            ]))

        by : (before after : Bool) → ends.0 ≡ before → ends.1 ≡ after →
            None ≡ outcome_of before after → None ≡ outcome_of had_end has_end
        by true true first second none = sym (ap₂ outcome_of (had_if first) (has_if second))
        by true false first second none = absurd (none_or_some Lost none)
        by false true first second none = absurd (none_or_some Gained none)
        by false false first second none = none_if_same had_end has_end (same first second)

-- ---- the search for a node beside the shifts

-- a test that passes says that a shift is of the place
pub has_listed : (shifts : List Shift) (id : NodeId) → has_place shifts id ≡ true →
    Contains (shift_ids shifts) id
has_listed shifts id is =
    let any = Any-from_list_any (λ (each : Shift). same_node each.id id) shifts is in
    subst (Contains (shift_ids shifts)) (same_node_is any.1.id id any.4)
    (is_listed shifts any.1 (any.0, any.2, any.3))

-- and one that fails that none is
pub not_listed : (shifts : List Shift) (id : NodeId) → has_place shifts id ≡ false →
    Contains (shift_ids shifts) id → ⊥
not_listed shifts id none listed =
    let at = has_shift shifts id listed in
    let same : same_node at.shift.id id ≡ true =
    ap (λ (each : NodeId). same_node each id) at.is ∙ same_node_laws.refl id in
    true≢false (sym (list_any-from_Any (λ (each : Shift). same_node each.id id) shifts
    (at.there.0, at.shift, at.there.1, at.there.2, same)) ∙ none)

-- over the states that were held
pub by_states : (finals : List ℕ) (holders : HoldersValue) (old new : TreeValue) (vertex : ℕ)
    (run : List Shift) (states : List ℕ) → IsRun old new vertex run → AreHeld holders old →
    ((state : ℕ) → Contains states state ↔ (roots_at holders (node_id vertex state) ≢ [])) →
    (found : Bool) →
    IsTrue found ↔ Any (λ (state : ℕ). IsBeside finals new vertex run (node_id vertex state))
    states → IsTrue found ↔ HasBeside finals new vertex run
by_states finals holders old new vertex run states is held exact found tells = (
  (λ passed. let any = tells.0 passed in (node_id vertex any.1, any.4)),
  (λ (id, beside).
      let both = stood finals old new vertex run is id beside in
      let value = some_is_found (value_of old (node_id vertex id.state)) both.0 in
      let node = value_has_node (node_of old (node_id vertex id.state)) value.0 value.1 in
      let there = (exact id.state).1 (held (node_id vertex id.state) node.0 node.1) in
      let place : node_id vertex id.state ≡ id =
      ap (λ (each : ℕ). node_id each id.state) (sym beside.there) in
      tells.1 (
        there.0,
        id.state,
        there.1,
        there.2,
        subst (IsBeside finals new vertex run) (sym place) beside,
      )),
)

-- over the nodes of the tree
module _ (finals : List ℕ) (tree : TreeValue) (vertex : ℕ) (run : List Shift) where
  -- the first ones aren't such nodes
  abbrev pub NoneFirst : ℕ → Type 0
  NoneFirst bound = (place : ℕ) (id : NodeId) → place < bound →
      slice_get (ids_of tree) place ≡ Some id → IsBeside finals tree vertex run id → ⊥

  pub none_more : (bound : ℕ) (here : NodeId) → NoneFirst bound →
      slice_get (ids_of tree) bound ≡ Some here → (IsBeside finals tree vertex run here → ⊥) →
      NoneFirst (bound + 1)
  none_more bound here none there other place id below at beside = elim (cases_eq place bound) [
    | inl same ↦
        let it : id ≡ here =
        same_Some id here (sym at ∙ (ap (slice_get (ids_of tree)) same ∙ there)) in
        other (subst (IsBeside finals tree vertex run) it beside)
    | inr apart ↦ none place id (omega (arith, below, apart)) at beside
  ]

  -- those of all nodes
  pub none_of_all : (bound : ℕ) → length tree.nodes ≤ bound → GivesNodes tree →
      NoneFirst bound → IsTrue false ↔ HasBeside finals tree vertex run
  none_of_all bound all gives none = not_so (HasBeside finals tree vertex run) (λ (id, beside).
      let value = some_is_found (value_of tree id) beside.stands in
      let has : Contains (ids_of tree) id =
      (gives.exact id).1 (value_has_node (node_of tree id) value.0 value.1) in
      none has.0 id
      (omega (arith, has.1, all, length-map tree.nodes (λ (node : NodeId × Node). node.0)))
      (slice_get_read (ids_of tree) (length (ids_of tree)) has.0 id refl has.1 (sym has.2))
      beside)
