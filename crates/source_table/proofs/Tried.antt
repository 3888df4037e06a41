-- Sources of which the chosen ones tried to take a change.
use Rattle.std.proofs.Common.{◌≡◌, ◌≢◌, ◌<◌, ◌+◌, ◌⊎◌, inl, inr, ℕ, true, false, List, [], ◌∷◌, length, get_or, take, filter_map, Option, None, Some, Result, Ok, Err, slice_get, nat_eq, Contains, All, refl, sym, ap, subst, ◌∙◌, true≢false, arith}
use Rattle.std.specs.Cmp.{nat_eq_equiv}
use Rattle.std.specs.Prelude.{OnOk}
use Rattle.std.specs.List.{IsDistinct}
use Rattle.std.proofs.lemmas.List.{take_more, get_or-take, get_or_default, length-take-le}
use Rattle.std.proofs.lemmas.List.Elements.{All-contains, Contains-append_left, Contains-get_or, Contains-push, Contains-push_cases}
use Rattle.std.proofs.lemmas.Map.Keys.{apart_from_distinct}
use Rattle.std.proofs.lemmas.Option.{get_or_from_slice_get, slice_get-get_or, slice_get_within}
use Rattle.source_tree.specs.declared.change.Change.{Change}
use Rattle.source_tree.specs.Ends.{SourceValue}
use Rattle.source_tree.specs.Product.{ProductValue}
use Rattle.source_tree.specs.Taking.{HasTaken, IsReady}
use Rattle.source_table.specs.Parts.{AreSound, Tries, TriesIf}
use Rattle.source_table.specs.Places.{ArePlaced, place_of}
use Rattle.source_table.specs.Sources.{AreReady, HaveTaken, roots_of, source_in}
use Rattle.source_table.proofs.Lists.{same_lists, some_is_one}
use Rattle.source_table.proofs.Placed.{root_of, root_at, source_at, stands_at, placed_at, at_place, no_place, no_source, within}
use Rattle.source_table.proofs.Chosen.{chosen_from, chosen_has}

-- ---- one place more of the chosen ones

-- it is one of those before, or the next
more_cases : (chosen : List ℕ) (k d place : ℕ) → k < length chosen →
    Contains (take (k + 1) chosen) place →
    Contains (take k chosen) place ⊎ (get_or chosen k d ≡ place)
more_cases chosen k d place below there =
    Contains-push_cases (take k chosen) (get_or chosen k d) place
    (subst (λ places. Contains places place) (take_more chosen k d below) there)

still : (chosen : List ℕ) (k d place : ℕ) → k < length chosen →
    Contains (take k chosen) place → Contains (take (k + 1) chosen) place
still chosen k d place below there =
    subst (λ places. Contains places place) (sym (take_more chosen k d below))
    (Contains-append_left (take k chosen) (get_or chosen k d ∷ []) place there)

next_there : (chosen : List ℕ) (k d : ℕ) → k < length chosen →
    Contains (take (k + 1) chosen) (get_or chosen k d)
next_there chosen k d below =
    subst (λ places. Contains places (get_or chosen k d)) (sym (take_more chosen k d below))
    (Contains-push (take k chosen) (get_or chosen k d))

-- the next is none of those before
next_new : (chosen : List ℕ) (k d : ℕ) → k < length chosen → IsDistinct nat_eq chosen →
    Contains (take k chosen) (get_or chosen k d) → ⊥
next_new chosen k d below once (j, within, is) =
    true≢false (sym same ∙ apart_from_distinct nat_eq chosen j k place once less below)
  where
    place : ℕ
    place = get_or chosen k d

    less : j < k
    less = omega (arith, within, length-take-le k chosen (omega (arith, below)))

    here : get_or chosen j place ≡ place
    here = sym (get_or-take k chosen j place less) ∙ is

    there : get_or chosen k place ≡ place
    there = get_or_default chosen k place d below

    same : nat_eq (get_or chosen j place) (get_or chosen k place) ≡ true
    same = ap (λ n. nat_eq n (get_or chosen k place)) here ∙ ap (nat_eq place) there
        ∙ nat_eq_equiv.refl place

module _ (change : Change) (product : ProductValue) where
  -- before its turn it is as it was
  pub untouched : (chosen : List ℕ) (k d place : ℕ) (before now : SourceValue) →
      k < length chosen → IsDistinct nat_eq chosen → get_or chosen k d ≡ place →
      TriesIf (Contains (take k chosen) place) change product before now →
      now ≡ before
  untouched chosen k d place before now below once here so = so.other (λ there.
      next_new chosen k d below once
      (subst (Contains (take k chosen)) (sym here) there))

  -- one place more
  pub one_more : (chosen : List ℕ) (k d place : ℕ) (before now after : SourceValue) →
      k < length chosen → IsDistinct nat_eq chosen →
      TriesIf (Contains (take k chosen) place) change product before now →
      TriesIf (get_or chosen k d ≡ place) change product now after →
      TriesIf (Contains (take (k + 1) chosen) place) change product before after
  one_more chosen k d place before now after below once so then = record {
    root = then.root ∙ so.root;
    taken = λ there. elim (more_cases chosen k d place below there) [
      | inl was ↦
          let same : after ≡ now = then.other (λ here. next_new chosen k d below once
          (subst (Contains (take k chosen)) (sym here) was)) in
          λ sound. subst (HasTaken change product before) (sym same)
          (so.taken was (sym (ap (λ (each : SourceValue). each.broken) same) ∙ sound))
      | inr here ↦
          λ sound. subst (λ old. HasTaken change product old after)
          (untouched chosen k d place before now below once here so)
          (then.taken here sound)
    ];
    other = λ never.
        then.other (λ here. never (subst (Contains (take (k + 1) chosen)) here
        (next_there chosen k d below)))
        ∙ so.other (λ there. never (still chosen k d place below there));
  }

  -- ---- all sources

  -- a chosen source can take the change
  pub can_take : (sources : List SourceValue) (places : List ℕ) (roots : List ℕ)
      (place : ℕ) (d : SourceValue) → ArePlaced (roots_of sources) places →
      AreReady change product roots sources →
      Contains (filter_map (place_of places) roots) place →
      IsReady change product (get_or sources place d)
  can_take sources places roots place d placed ready there =
      let (root, among, is) = chosen_from (place_of places) roots place there in
      let (source, at, has) = at_place sources places placed place root is in
      subst (IsReady change product)
      (sym (get_or_from_slice_get sources place source d at))
      (ready root source among (source_at sources places placed place root source at has))

  -- the chosen sources took the change
  pub have_taken : (old new : List SourceValue) (places : List ℕ) (roots : List ℕ) →
      ArePlaced (roots_of old) places → roots_of new ≡ roots_of old →
      ((place : ℕ) (d : SourceValue) → place < length old →
      TriesIf (Contains (filter_map (place_of places) roots) place) change product
      (get_or old place d) (get_or new place d)) →
      length new ≡ length old →
      AreSound (filter_map (place_of places) roots) new →
      HaveTaken change product roots old new
  have_taken old new places roots placed same tries len sound = record {
    taken = λ root before after among was is.
        let (place, at, has) = stands_at old root before was in
        let (now, stands, with_root) = stands_at new root after is in
        let own = placed_at old places placed place root before at has in
        let here : now ≡ place = some_is_one now place
        (sym (placed_at new places afterwards now root after stands with_root) ∙ own) in
        let there = chosen_has (place_of places) roots root place among own in
        subst (λ source. HasTaken change product source after)
        (get_or_from_slice_get old place before before at)
        (subst (HasTaken change product (get_or old place before))
        (get_or_from_slice_get new place after before (ap (slice_get new) (sym here) ∙ stands))
        ((tries place before (slice_get_within old place before at)).taken there
        (All-contains (λ each. (d : SourceValue) → (get_or new each d).broken ≡ false)
        (filter_map (place_of places) roots) place sound there before)));
    others = λ root never. by root never (source_in old root) refl;
  }
    where
      afterwards : ArePlaced (roots_of new) places
      afterwards = subst (λ all. ArePlaced all places) (sym same) placed

      by : (root : ℕ) → (Contains roots root → ⊥) → (found : Option SourceValue) →
          source_in old root ≡ found → source_in new root ≡ source_in old root
      by root never None none =
          no_source new places afterwards root (no_place old places placed root none) ∙ sym none
      by root never (Some before) was =
          let (place, at, has) = stands_at old root before was in
          let within = slice_get_within old place before at in
          let unchanged = (tries place before within).other (λ there.
          let (each, among, is) = chosen_from (place_of places) roots place there in
          never (subst (Contains roots)
          (root_at old places placed place each root is
          (placed_at old places placed place root before at has)) among)) in
          source_at new places afterwards place root before
          (slice_get-get_or new place before (omega (arith, len, within))
          ∙ ap Some (unchanged ∙ get_or_from_slice_get old place before before at)) has
          ∙ sym was

-- the chosen places are those of sources
pub all_within : (sources : List SourceValue) (places : List ℕ) (roots : List ℕ) →
    ArePlaced (roots_of sources) places →
    All (λ place. place < length sources) (filter_map (place_of places) roots)
all_within sources places roots placed k d below =
    let place = get_or (filter_map (place_of places) roots) k d in
    let (root, among, is) = chosen_from (place_of places) roots place
    (Contains-get_or (filter_map (place_of places) roots) k d below) in
    within sources places placed place root is

-- each source has the root that it had
pub same_roots : (chosen : List ℕ) (change : Change) (product : ProductValue)
    (old new : List SourceValue) →
    length new ≡ length old → Tries chosen 0 change product old new →
    roots_of new ≡ roots_of old
same_roots chosen change product old new len tries =
    same_lists root_of old new len (λ k d below. (tries k d below).root)

-- what follows from a good outcome
pub on_ok : {X E : Type 0} {P Q : Type 0} (result : Result X E) → (P → Q) → OnOk result P →
    OnOk result Q
on_ok (Ok x) then so = then so
on_ok (Err e) then so = tt

-- the places from the first on
pub from_first : (chosen : List ℕ) (change : Change) (product : ProductValue)
    (old new : List SourceValue) →
    Tries chosen 0 change product old new → (place : ℕ) (d : SourceValue) →
    place < length old →
    TriesIf (Contains chosen place) change product (get_or old place d)
    (get_or new place d)
from_first chosen change product old new tries place d below =
    let same : 0 + place ≡ place = omega arith in
    subst (λ each. TriesIf (Contains chosen each) change product (get_or old place d)
    (get_or new place d)) same (tries place d below)

-- the chosen sources took the change
pub all_taken : (chosen : List ℕ) (change : Change) (product : ProductValue)
    (old new : List SourceValue)
    (places : List ℕ) (roots : List ℕ) → ArePlaced (roots_of old) places →
    chosen ≡ filter_map (place_of places) roots → length new ≡ length old →
    Tries chosen 0 change product old new → AreSound chosen new →
    HaveTaken change product roots old new
all_taken chosen change product old new places roots placed is len tries sound =
    have_taken change product old new places roots placed
    (same_roots chosen change product old new len tries)
    (subst (λ (list : List ℕ). (place : ℕ) (d : SourceValue) → place < length old →
    TriesIf (Contains list place) change product (get_or old place d)
    (get_or new place d)) is
    (from_first chosen change product old new tries))
    len
    (subst (λ (list : List ℕ). AreSound list new) is sound)
