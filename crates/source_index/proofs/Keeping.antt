-- The roots of a vertex as they are kept, after each change.
use Rattle.std.proofs.Common.{◌≡◌, ◌≢◌, ◌==◌, ◌<◌, ℕ, true, List, [], ◌∷◌, Some, Result, Ok, Err, length, get_or, set, slice_get, refl, sym, ap, subst, ◌∙◌, eqb-true, arith}
use Rattle.std.specs.Prelude.{OnOk, OnErr, insert, remove}
use Rattle.std.specs.List.{zip}
use Rattle.std.proofs.lemmas.List.{get_or_default}
use Rattle.std.proofs.lemmas.Option.{get_or_from_slice_get, slice_get_within}
use Rattle.source_index.specs.Roots.{AddsRoot, DropsRoot}
use Rattle.source_index.specs.Vertex.{AddsAt, DropsAt, IsFree, IsInStep, Rewrites, RootsByState, roots_in}
use Rattle.source_index.specs.VertexStorage.{Inserts, many_of, states_of}
use Rattle.source_index.specs.declared.vertex.VertexStorage.{VertexStorage}
use Rattle.source_index.proofs.Places.{on_ok}
use Rattle.source_index.proofs.Beside.{added_at, dropped_at, inserted_at, removed_at, remove_set, roots_found, roots_none, step_added, step_dropped, step_inserted, step_removed}

-- ---- one list of roots among others

pub alone : (many : List (List ℕ)) (before after : List ℕ) (place : ℕ)
    (Changes : List ℕ → List ℕ → Type 0) → many ≡ before ∷ [] → place < length many →
    Changes before after → Rewrites many (after ∷ []) place Changes
alone many before after place Changes is within so =
    let first : place ≡ 0 = omega (arith, within, ap length is) in
    record {
      roots = after;
      set = sym (λ i. set (is i) (first i) after);
      changes = subst (λ (l : List ℕ). Changes l after) (sym (λ i. get_or (is i) (first i) [])) so;
    }

pub among : (many items : List (List ℕ)) (before after : List ℕ) (place : ℕ)
    (Changes : List ℕ → List ℕ → Type 0) → many ≡ items → place < length many →
    before ≡ get_or items place before → Changes before after →
    Rewrites many (set items place after) place Changes
among many items before after place Changes is within read so =
    let inside : place < length items = subst (λ (l : List (List ℕ)). place < length l) is within in
    record {
      roots = after;
      set = ap (λ (l : List (List ℕ)). set l place after) (sym is);
      changes = subst (λ (l : List ℕ). Changes l after)
          (read ∙ get_or_default items place before [] inside
          ∙ ap (λ (l : List (List ℕ)). get_or l place []) (sym is)) so;
    }

-- ---- the first

pub bare_of : {X : Type 0} (xs : List X) → (length xs == 0) ≡ true → xs ≡ []
bare_of [] is = refl
bare_of (x ∷ xs) is = absurd (omega (arith, eqb-true (length (x ∷ xs)) 0 is))

pub none_of : {X Y : Type 0} (xs : List X) (ys : List Y) → length ys ≡ length xs → xs ≡ [] →
    ys ≡ []
none_of xs [] paired is = refl
none_of xs (y ∷ ys) paired is = absurd (omega (arith, paired, ap length is))

pub put_first : {X : Type 0} (xs : List X) (place : ℕ) (x : X) → xs ≡ [] → place ≡ 0 →
    x ∷ [] ≡ insert xs place x
put_first xs place x bare first = sym (λ i. insert (bare i) (first i) x)

-- ---- the roots by state

-- what was found in the list of the states
pub stands : (own states : List ℕ) (place state : ℕ) → states ≡ own →
    slice_get states place ≡ Some state → slice_get own place ≡ Some state
stands own states place state is at = sym (ap (λ (all : List ℕ). slice_get all place) is) ∙ at

pub belongs : (own states : List ℕ) (place state : ℕ) → states ≡ own →
    IsFree states state place → IsFree own state place
belongs own states place state is free =
    subst (λ (all : List ℕ). IsFree all state place) is free

abbrev pub by_state : VertexStorage → RootsByState
by_state kept = zip (states_of kept) (many_of kept)

abbrev pub InStep : VertexStorage → Type 0
InStep kept = IsInStep (states_of kept) (many_of kept)

module _ (kept : VertexStorage) (step : InStep kept) where
  -- what is read
  pub reads : (self : RootsByState) (state place : ℕ) (roots : List ℕ) → by_state kept ≡ self →
      slice_get (states_of kept) place ≡ Some state →
      slice_get (many_of kept) place ≡ Some roots → roots ≡ roots_in self state
  reads self state place roots is at there =
      sym (get_or_from_slice_get (many_of kept) place roots [] there)
      ∙ sym (roots_found (states_of kept) (many_of kept) step state place at)
      ∙ ap (λ (all : RootsByState). roots_in all state) is

  pub reads_none : (self : RootsByState) (state place : ℕ) → by_state kept ≡ self →
      IsFree (states_of kept) state place → roots_in self state ≡ []
  reads_none self state place is free =
      sym (ap (λ (all : RootsByState). roots_in all state) is)
      ∙ roots_none (states_of kept) (many_of kept) step state place free

  -- a root is added to those of a state
  module _ {E : Type 0} {X : Type 0} (new : VertexStorage) (state place root : ℕ)
      (result : Result X E) where
    pub adds_found : slice_get (states_of kept) place ≡ Some state →
        states_of new ≡ states_of kept →
        OnOk result (Rewrites (many_of kept) (many_of new) place
        (λ before after. AddsRoot before after root)) →
        OnOk result (AddsAt (by_state kept) (by_state new) state root)
    adds_found at same = on_ok result (λ changed.
        subst (λ (all : List ℕ). AddsAt (by_state kept) (zip all (many_of new)) state root)
        (sym same)
        (added_at (states_of kept) (many_of kept) step (many_of new) state place root at changed))

    pub adds_free : IsFree (states_of kept) state place →
        OnOk result (Inserts kept new place state root) →
        OnOk result (AddsAt (by_state kept) (by_state new) state root)
    adds_free free = on_ok result (λ inserted.
        subst (λ (all : RootsByState). AddsAt (by_state kept) all state root)
        (sym (λ i. zip (inserted.states i) (inserted.many i)))
        (inserted_at (states_of kept) (many_of kept) step state place root inserted.roots free
        inserted.single))

  pub step_found : {X E : Type 0} (new : VertexStorage) (place root : ℕ) (result : Result X E) →
      states_of new ≡ states_of kept →
      OnOk result (Rewrites (many_of kept) (many_of new) place
      (λ before after. AddsRoot before after root)) →
      OnErr result (many_of new ≡ many_of kept) → InStep new
  step_found new place root (Ok x) same changed unchanged =
      subst (λ (all : List ℕ). IsInStep all (many_of new)) (sym same)
      (step_added (states_of kept) (many_of kept) step (many_of new) place root changed)
  step_found new place root (Err e) same changed unchanged =
      subst (λ (all : List ℕ). IsInStep all (many_of new)) (sym same)
      (subst (λ (all : List (List ℕ)). IsInStep (states_of kept) all) (sym unchanged) step)

  pub step_free : {X E : Type 0} (new : VertexStorage) (state place root : ℕ)
      (result : Result X E) →
      IsFree (states_of kept) state place → OnOk result (Inserts kept new place state root) →
      OnErr result (states_of new ≡ states_of kept) →
      OnErr result (many_of new ≡ many_of kept) → InStep new
  step_free new state place root (Ok x) free inserted same unchanged =
      subst (λ (all : List ℕ). IsInStep all (many_of new)) (sym inserted.states)
      (subst (λ (all : List (List ℕ)). IsInStep (insert (states_of kept) place state) all)
      (sym inserted.many)
      (step_inserted (states_of kept) (many_of kept) step state place root inserted.roots free
      inserted.single))
  step_free new state place root (Err e) free inserted same unchanged =
      subst (λ (all : List ℕ). IsInStep all (many_of new)) (sym same)
      (subst (λ (all : List (List ℕ)). IsInStep (states_of kept) all) (sym unchanged) step)

  -- a root is taken out of those of a state
  module _ (taken : VertexStorage) (state place root : ℕ) (roots : List ℕ)
      (at : slice_get (states_of kept) place ≡ Some state)
      (same : states_of taken ≡ states_of kept)
      (changed : Rewrites (many_of kept) (many_of taken) place
      (λ before after. DropsRoot before after root))
      (there : slice_get (many_of taken) place ≡ Some roots) where
    within : place < length (states_of kept)
    within = slice_get_within (states_of kept) place state at

    is : get_or (many_of taken) place [] ≡ roots
    is = get_or_from_slice_get (many_of taken) place roots [] there

    -- and others are left
    pub drops_found : DropsAt (by_state kept) (by_state taken) state root
    drops_found =
        subst (λ (all : List ℕ). DropsAt (by_state kept) (zip all (many_of taken)) state root)
        (sym same)
        (dropped_at (states_of kept) (many_of kept) step (many_of taken) state place root at
        changed)

    pub step_left : roots ≢ [] → InStep taken
    step_left some =
        subst (λ (all : List ℕ). IsInStep all (many_of taken)) (sym same)
        (step_dropped (states_of kept) (many_of kept) step (many_of taken) place root changed
        (omega (arith, step.paired, within)) (λ bare. some (sym is ∙ bare)))

    -- or it was the last, with which its state went
    module _ (new : VertexStorage) (states : states_of new ≡ remove (states_of taken) place)
        (many : many_of new ≡ remove (many_of taken) place) where
      pub drops_last : roots ≡ [] → DropsAt (by_state kept) (by_state new) state root
      drops_last bare =
          subst (λ (all : RootsByState). DropsAt (by_state kept) all state root)
          (sym (λ i. zip ((states ∙ ap (λ (all : List ℕ). remove all place) same) i) (many i)))
          (removed_at (states_of kept) (many_of kept) step (many_of taken) state place root at
          changed (is ∙ bare))

      pub step_last : InStep new
      step_last =
          subst (λ (all : List ℕ). IsInStep all (many_of new))
          (sym (states ∙ ap (λ (all : List ℕ). remove all place) same))
          (subst (λ (all : List (List ℕ)). IsInStep (remove (states_of kept) place) all)
          (sym (many ∙ ap (λ (all : List (List ℕ)). remove all place) changed.set
          ∙ remove_set (many_of kept) place changed.roots))
          (step_removed (states_of kept) (many_of kept) step place within))
