-- An expiry under way.
use Rattle.std.proofs.Common.{◌≡◌, ◌≤◌, ℕ, Bool, true, false, ◌⊎◌, inl, inr, cond, nat_lt, List, [], ◌∷◌, ◌++◌, Option, None, Some, refl, sym, ap, subst, ◌∙◌, Contains, IsPermutation, All, get_or, option_map, true≢false, arith}
use Rattle.std.specs.List.{IsDistinct, list_any}
use Rattle.std.specs.Prelude.{Result, Ok, Err, OnOk, IsOk}
use Rattle.std.specs.Option.{MatchOption}
use Rattle.std.proofs.lemmas.Bool.{cases_lt}
use Rattle.std.proofs.lemmas.List.{map-append}
use Rattle.std.proofs.lemmas.Option.{slice_get-get_or, get_or_from_slice_get}
use Rattle.std.proofs.lemmas.List.Elements.{All-nil, All-push, Contains-append_left, Contains-push, Contains-push_cases}
use Rattle.std.proofs.lemmas.Map.Keys.{IsDistinct-push}
use Rattle.std.proofs.lemmas.Map.Views.{Contains-from_any}
use Rattle.due_queue.specs.declared.due.Due.{Due}
use Rattle.due_queue.specs.Queue.{due, AllAbove, TakesNext}
use Rattle.due_queue.proofs.Items.{left_over}
use Rattle.delta_tree.specs.declared.node.NodeId.{NodeId}
use Rattle.delta_tree.specs.declared.node.Shift.{Shift}
use Rattle.delta_tree.specs.Nodes.{Node, TreeValue, same_node, node_in, node_of, IsTree}
use Rattle.delta_tree.specs.Changes.{living, AreDue, AreShifts, Expires, IsSameBeside, IsShift, shift_ids}
use Rattle.delta_tree.specs.Dues.{IsDueIn, IsDueWith, IsKept, IsNoted, KeepsDues}
use Rattle.delta_tree.specs.Losses.{IsLoss, loss, with_loss}
use Rattle.delta_tree.proofs.Ids.{same_node_is, same_node_laws, changed_there, none_or_some, nothing_once}
use Rattle.delta_tree.proofs.Trees.{expire_keeps, same_found, living_some, living_stays, living_gone}
use Rattle.delta_tree.proofs.Below.{contains_map}

-- the nodes above the clock are as they were, and each node that is left is noted
pub record IsExpiring (now : ℕ) (old new : List (NodeId × Node)) (dues : List (Due NodeId)) : Type 0 where
  pub alive : (id : NodeId) → living now (node_in new id) ≡ living now (node_in old id)
  pub noted : IsNoted new dues

-- what lives at a clock does so at it again
living_twice : (now : ℕ) (found : Option Node) → living now (living now found) ≡ living now found
living_twice now None = refl
living_twice now (Some node) = by (nat_lt now node.value) refl
  where
    by : (b : Bool) → nat_lt now node.value ≡ b →
        living now (cond b (Some node) None) ≡ cond b (Some node) None
    by true is = ap (λ (test : Bool). cond test (Some node) None) is
    by false is = refl

module _ (now : ℕ) (old new : List (NodeId × Node)) (id : NodeId)
    (update : (each : NodeId) → node_in new each ≡ cond (same_node id each)
    (living now (node_in old id)) (node_in old each)) where
  -- a node that is dropped or noted lives as it did
  pub alive_after : (each : NodeId) → living now (node_in new each) ≡ living now (node_in old each)
  alive_after each = ap (living now) (update each) ∙ by (same_node id each) refl
    where
      by : (b : Bool) → same_node id each ≡ b →
          living now (cond b (living now (node_in old id)) (node_in old each)) ≡ living now
          (node_in old each)
      by true same = living_twice now (node_in old id)
          ∙ ap (λ place. living now (node_in old place)) (same_node_is id each same)
      by false other = refl

  -- and all that are left are noted
  pub noted_after : (dues rest last : List (Due NodeId)) (next : Due NodeId) → next.item ≡ id →
      IsNoted old dues → IsPermutation dues (next ∷ rest) → KeepsDues rest last →
      ((node : Node) → node_in new id ≡ Some node → Contains last (due id node.value)) →
      IsNoted new last
  noted_after dues rest last next item noted moved keeps here each node is = by (same_node id each) refl
    where
      apart : same_node id each ≡ false → id ≡ each → ⊥
      apart other at = true≢false (sym (same_node_laws.refl id) ∙ ap (same_node id) at ∙ other)

      same_due : (place : NodeId) (other : ℕ) → next ≡ due place other → id ≡ place
      same_due place other is = sym item ∙ ap (λ (d : Due NodeId). d.item) is

      by : (b : Bool) → same_node id each ≡ b →
          (bound : ℕ) × (bound ≤ node.value) × Contains last (due each bound)
      by true same =
          let at : id ≡ each = same_node_is id each same in (
            node.value,
            omega arith,
            subst (λ place. Contains last (due place node.value)) at
                (here node (ap (node_in new) at ∙ is)),
          )
      by false other =
          let (bound, enough, there) = noted each node
          (sym (ap (λ b. cond b (living now (node_in old id)) (node_in old each)) other)
          ∙ sym (update each) ∙ is) in (
            bound,
            enough,
            elim (left_over dues rest next (due each bound) moved there) [
              | inl kept ↦ keeps (due each bound) kept
              | inr taken ↦ absurd (apart other (same_due each bound taken))
            ],
          )

  pub expiring_after : (first : List (NodeId × Node)) (dues rest last : List (Due NodeId))
      (next : Due NodeId) → next.item ≡ id → IsExpiring now first old dues →
      TakesNext now dues rest next → KeepsDues rest last →
      ((node : Node) → node_in new id ≡ Some node → Contains last (due id node.value)) →
      IsExpiring now first new last
  expiring_after first dues rest last next item expiring takes keeps here = record {
    alive = λ each. alive_after each ∙ expiring.alive each;
    noted = noted_after dues rest last next item expiring.noted takes.taken keeps here;
  }

-- where none is due any more, all that are left are above the clock
pub all_alive : (now : ℕ) (old new : List (NodeId × Node)) (dues : List (Due NodeId)) →
    IsExpiring now old new dues →
    AllAbove now dues →
    (id : NodeId) → node_in new id ≡ living now (node_in old id)
all_alive now old new dues expiring later id = by (node_in new id) refl ∙ expiring.alive id
  where
    by : (found : Option Node) → node_in new id ≡ found → found ≡ living now found
    by None is = refl
    by (Some node) is =
        let (value, enough, there) = expiring.noted id node is in
        let above = later (due id value) there in
        sym (living_stays now (Some node) node refl (omega (arith, enough, above)))

-- and they are a tree
pub kept_after : (now : ℕ) (old new : TreeValue) (dues last : List (Due NodeId)) → IsTree old →
    IsExpiring now old.nodes new.nodes dues →
    AllAbove now dues →
    IsSameBeside old new → last ≡ dues → IsKept new last
kept_after now old new dues last kept expiring later beside same = record {
  is_tree = expire_keeps old new now kept
      (all_alive now old.nodes new.nodes dues expiring later) beside;
  noted = subst (IsNoted new.nodes) (sym same) expiring.noted;
}

-- ---- the nodes that were taken out

-- what is left stood before, and these are the nodes that are due and gone, each once
pub record AreGone (now : ℕ) (old new : List (NodeId × Node)) (ids : List NodeId) : Type 0 where
  pub stood : (id : NodeId) (node : Node) → node_in new id ≡ Some node →
      node_in old id ≡ Some node
  pub sound : (id : NodeId) → Contains ids id → IsDueIn old now id × (node_in new id ≡ None)
  pub complete : (id : NodeId) → IsDueIn old now id → node_in new id ≡ None → Contains ids id
  pub once : IsDistinct same_node ids

-- none at first
pub none_gone : (now : ℕ) (nodes : List (NodeId × Node)) → AreGone now nodes nodes []
none_gone now nodes = record {
  stood = λ id node is. is;
  sound = λ id (k, within, is). absurd (omega (arith, within));
  complete = λ id (node, is, _) none. absurd (none_or_some node (sym none ∙ is));
  once = nothing_once;
}

module _ (now : ℕ) (first old new : List (NodeId × Node)) (id : NodeId)
    (update : (each : NodeId) → node_in new each ≡ cond (same_node id each)
    (living now (node_in old id)) (node_in old each)) (ids : List NodeId)
    (gone : AreGone now first old ids) where
  -- a place is the one that is looked at, or is as it was
  place_cases : (each : NodeId) →
      ((id ≡ each) × (node_in new each ≡ living now (node_in old each)))
      ⊎ (node_in new each ≡ node_in old each)
  place_cases each = by (same_node id each) refl
    where
      changed : (b : Bool) → same_node id each ≡ b →
          node_in new each ≡ cond b (living now (node_in old id)) (node_in old each)
      changed b is =
          update each ∙ ap (λ b. cond b (living now (node_in old id)) (node_in old each)) is

      by : (b : Bool) → same_node id each ≡ b →
          ((id ≡ each) × (node_in new each ≡ living now (node_in old each)))
          ⊎ (node_in new each ≡ node_in old each)
      by true same =
          let at : id ≡ each = same_node_is id each same in
          inl (at, changed true same ∙ ap (λ place. living now (node_in old place)) at)
      by false other = inr (changed false other)

  stood_after : (each : NodeId) (node : Node) → node_in new each ≡ Some node →
      node_in first each ≡ Some node
  stood_after each node is = elim (place_cases each) [
    | inl (at, here) ↦ gone.stood each node
        (living_some now (node_in old each) node (sym here ∙ is)).0
    | inr kept ↦ gone.stood each node (sym kept ∙ is)
  ]

  none_after : (each : NodeId) → node_in old each ≡ None → node_in new each ≡ None
  none_after each none = elim (place_cases each) [
    | inl (at, here) ↦ here ∙ ap (living now) none
    | inr kept ↦ kept ∙ none
  ]

  -- where none is any more, none was before, or it is this place
  none_before : (each : NodeId) → node_in new each ≡ None →
      (node_in old each ≡ None) ⊎ (id ≡ each)
  none_before each none = elim (place_cases each) [
    | inl (at, here) ↦ inr at
    | inr kept ↦ inl (sym kept ∙ none)
  ]

  -- one more, which is due
  pub one_gone : IsDueIn old now id → AreGone now first new (ids ++ id ∷ [])
  one_gone (node, is, reached) = record {
    stood = stood_after;
    sound = λ each has. elim (Contains-push_cases ids id each has) [
      | inl before ↦
          let (was, none) = gone.sound each before in (was, none_after each none)
      | inr at ↦
          subst (λ place. IsDueIn first now place × (node_in new place ≡ None)) at
          ((node, gone.stood id node is, reached), none_here)
    ];
    complete = λ each was none. elim (none_before each none) [
      | inl before ↦ Contains-append_left ids (id ∷ []) each (gone.complete each was before)
      | inr at ↦ subst (Contains (ids ++ id ∷ [])) at (Contains-push ids id)
    ];
    once = IsDistinct-push same_node_laws ids id gone.once (apart (list_any (same_node id) ids) refl);
  }
    where
      none_here : node_in new id ≡ None
      none_here =
          update id
          ∙ changed_there (node_in old id) id id (living now (node_in old id)) refl
          ∙ living_gone now (node_in old id) node is reached

      apart : (b : Bool) → list_any (same_node id) ids ≡ b → b ≡ false
      apart true has =
          absurd (none_or_some node
          (sym (gone.sound id (Contains-from_any same_node_is id ids has)).1 ∙ is))
      apart false none = refl

  -- none more, where none is due there
  pub no_more_gone : (IsDueIn old now id → ⊥) → AreGone now first new ids
  no_more_gone free = record {
    stood = stood_after;
    sound = λ each has. let (was, none) = gone.sound each has in (was, none_after each none);
    complete = λ each was none. elim (none_before each none) [
      | inl before ↦ gone.complete each was before
      | inr at ↦ here each at was (node_in old each) refl
    ];
    once = gone.once;
  }
    where
      here : (each : NodeId) → id ≡ each → IsDueIn first now each → (found : Option Node) →
          node_in old each ≡ found → Contains ids each
      here each at was None none = gone.complete each was none
      here each at (node, is, reached) (Some other) there =
          let same : node ≡ other =
          same_found (node_in first each) node other is (gone.stood each other there) in
          absurd (free (subst (IsDueIn old now) (sym at) (
            other,
            there,
            subst (λ (n : Node). n.value ≤ now) same reached,
          )))

-- what follows from a fact of an outcome and one of the next, which is good only behind a good one
pub both_ok : {T E P Q R : Type 0} (first second : Result T E) → OnOk first P →
    OnOk second (IsOk first) → OnOk second Q → (P → Q → R) → OnOk second R
both_ok first (Err fault) one after other both = tt
both_ok (Ok x) (Ok y) one after other both = both one other
both_ok (Err fault) (Ok y) one after other both = absurd cc

-- what follows from a fact of an outcome
pub told_ok : {T E P R : Type 0} (outcome : Result T E) → OnOk outcome P → (P → R) →
    OnOk outcome R
told_ok (Ok x) one gives = gives one
told_ok (Err fault) one gives = tt

-- where all that are left live, these are all that are due
pub are_due : (now : ℕ) (tree : TreeValue) (new : List (NodeId × Node)) (ids : List NodeId) →
    AreGone now tree.nodes new ids →
    ((id : NodeId) → node_in new id ≡ living now (node_in tree.nodes id)) → AreDue tree now ids
are_due now tree new ids gone alive = record {
  exact = λ id. (
    (λ has. (gone.sound id has).0),
    (λ (node, is, reached). gone.complete id (node, is, reached)
        (alive id ∙ living_gone now (node_in tree.nodes id) node is reached)),
  );
  once = gone.once;
}

-- ---- the list of what was lost

-- these are the losses of the nodes that are due and gone
pub record AreTold (now : ℕ) (old new : List (NodeId × Node)) (shifts : List Shift) : Type 0 where
  pub gone : AreGone now old new (shift_ids shifts)
  pub losses : All (IsLoss old) shifts

-- none at first
pub none_told : (now : ℕ) (nodes : List (NodeId × Node)) → AreTold now nodes nodes []
none_told now nodes = record { gone = none_gone now nodes; losses = All-nil (IsLoss nodes) }

-- one more where one was taken out
pub told_after : (now : ℕ) (first old new : List (NodeId × Node)) (id : NodeId) →
    ((each : NodeId) → node_in new each ≡ cond (same_node id each)
    (living now (node_in old id)) (node_in old each)) →
    (shifts : List Shift) → AreTold now first old shifts → (lost : Option ℕ) →
    MatchOption lost (IsDueIn old now id → ⊥) (IsDueWith old now id) →
    AreTold now first new (with_loss shifts id lost)
told_after now first old new id update shifts told None free = record {
  gone = no_more_gone now first old new id update (shift_ids shifts) told.gone free;
  losses = told.losses;
}
told_after now first old new id update shifts told (Some value) (node, is, same, reached) = record {
  gone = subst (AreGone now first new)
      (sym (map-append (λ (each : Shift). each.id) shifts (loss id (Some value) ∷ [])))
      (one_gone now first old new id update (shift_ids shifts) told.gone
      (node, is, omega (arith, same, reached)));
  losses = All-push (IsLoss first) shifts (loss id (Some value)) told.losses (record {
    before = ap (option_map (λ (each : Node). each.value)) (told.gone.stood id node is)
        ∙ ap Some same;
    after = refl;
  });
}

-- the losses of what was due are all that changed
pub due_shifts : (old new : TreeValue) (now : ℕ) (shifts : List Shift) →
    AreDue old now (shift_ids shifts) → All (IsLoss old.nodes) shifts → Expires old new now →
    AreShifts old new shifts
due_shifts old new now shifts due losses expires = record {
  values = λ k d within. value_is (get_or shifts k d) (losses k d within)
      (contains_map (λ (each : Shift). each.id) shifts (get_or shifts k d) (
        k,
        within,
        get_or_from_slice_get shifts k (get_or shifts k d) (get_or shifts k d)
            (slice_get-get_or shifts k d within),
      ));
  once = due.once;
  others = λ id free. expires id ∙ kept id free (node_of old id) refl;
}
  where
    value_is : (shift : Shift) → IsLoss old.nodes shift → Contains (shift_ids shifts) shift.id →
        IsShift old new shift
    value_is shift told has =
        let (node, is, reached) = (due.exact shift.id).0 has in
        record {
          before = told.before;
          after = ap (option_map (λ (each : Node). each.value))
              (expires shift.id ∙ living_gone now (node_of old shift.id) node is reached)
              ∙ sym told.after;
        }

    kept : (id : NodeId) → (Contains (shift_ids shifts) id → ⊥) → (found : Option Node) →
        node_of old id ≡ found → living now (node_of old id) ≡ node_of old id
    kept id free None is = ap (living now) is ∙ sym is
    kept id free (Some node) is = elim (cases_lt now node.value) [
      | inl above ↦ living_stays now (node_of old id) node is above ∙ sym is
      | inr reached ↦ absurd (free ((due.exact id).1 (node, is, reached)))
    ]
