-- An expiry under way.
use Rattle.std.proofs.Common.{◌≡◌, ◌≤◌, ◌<◌, ◌↔◌, ℕ, Bool, true, false, ◌⊎◌, inl, inr, cond, nat_lt, List, [], ◌∷◌, ◌++◌, Option, None, Some, refl, sym, ap, subst, ◌∙◌, Contains, IsPermutation, All, map, get_or, length, true≢false, arith, rules}
use Rattle.std.specs.List.{IsDistinct, list_any}
use Rattle.std.specs.Prelude.{Result, Ok, Err, OnOk, IsOk}
use Rattle.std.specs.Cmp.{IsEquivalence}
use Rattle.std.specs.Cmp.Rules.{comparing}
use Rattle.std.specs.Option.{MatchOption}
use Rattle.std.proofs.lemmas.Bool.{ltb-true, lt-ltb}
use Rattle.std.proofs.lemmas.List.{map-append, length-map, get_or-map}
use Rattle.std.proofs.lemmas.List.Elements.{All-nil, All-push, Contains-append_left, Contains-push, Contains-push_cases}
use Rattle.std.proofs.lemmas.Map.Keys.{IsDistinct-push, IsDistinct-from_apart, apart_from_distinct}
use Rattle.std.proofs.lemmas.Map.Views.{Contains-from_any}
use Rattle.small_map.proofs.Entries.{none_or_some, some_is_one}
use Rattle.due_queue.specs.declared.due.Due.{Due}
use Rattle.due_queue.specs.Queue.{due, AllAbove, TakesNext}
use Rattle.due_queue.proofs.Items.{left_over}
use Rattle.place_table.specs.declared.gain.Lost.{Lost}
use Rattle.place_table.specs.declared.spot.Spot.{Spot}
use Rattle.place_table.specs.declared.place.Kept.{Kept}
use Rattle.place_table.specs.Kept.{Placed, kept_at, same_spot}
use Rattle.place_table.specs.Losses.{same_lost}
use Rattle.place_table.specs.Queue.{IsDueWith, IsNotDue, KeepsNoted, alive, with_lost, lost_of}
use Rattle.place_table.proofs.Leaving.{alive_gone}
use Rattle.place_table.proofs.Seen.{same_spot_is}

-- ---- places of roots

-- what is kept there
abbrev pub kept_of : List Placed → Spot → Option Kept
kept_of places one = kept_at places one.root one.id

-- the same root at the same place
abbrev pub same_of : Spot → Spot → Bool
same_of one other = same_spot one.root one.id other.root other.id

same_of_is : (one other : Spot) → same_of one other ≡ true → one ≡ other
same_of_is one other same =
    let (roots, ids) = same_spot_is one.root one.id other.root other.id same in
    λ i. record { root = roots i; id = ids i }

same_of_laws : IsEquivalence same_of
same_of_laws = search (comparing, rules)

changed_here : (old : Option Kept) (id : Spot) (value : Option Kept) →
    cond (same_of id id) value old ≡ value
changed_here old id value = ap (λ b. cond b value old) (same_of_laws.refl id)

nothing_once : IsDistinct same_of []
unfolding IsDistinct
nothing_once = tt

same_found : (found : Option Kept) (a b : Kept) → found ≡ Some a → found ≡ Some b → a ≡ b
same_found found a b one other = some_is_one a b (sym one ∙ other)

-- each is noted with a value that is at most its own
abbrev AreNotedAt : List Placed → List (Due Spot) → Type 0
AreNotedAt places dues = (id : Spot) (kept : Kept) → kept_of places id ≡ Some kept →
    (value : ℕ) × (value ≤ kept.value) × Contains dues (due id value)

-- what is kept there has a value that is at most the clock
abbrev IsDueIn : List Placed → ℕ → Spot → Type 0
IsDueIn places now id = (kept : Kept) × (kept_of places id ≡ Some kept) × (kept.value ≤ now)

alive_some : (now : ℕ) (found : Option Kept) (kept : Kept) → alive now found ≡ Some kept →
    (found ≡ Some kept) × (now < kept.value)
alive_some now None kept is = absurd (none_or_some kept is)
alive_some now (Some one) kept is = by (nat_lt now one.value) refl is
  where
    by : (b : Bool) → nat_lt now one.value ≡ b → cond b (Some one) None ≡ Some kept →
        (Some one ≡ Some kept) × (now < kept.value)
    by true below same = (
      same,
      subst (λ (k : Kept). now < k.value) (some_is_one one kept same)
          (ltb-true now one.value below),
    )
    by false past same = absurd (none_or_some kept same)

lives_on : (now : ℕ) (found : Option Kept) (kept : Kept) → found ≡ Some kept →
    now < kept.value → alive now found ≡ Some kept
lives_on now found kept is above =
    ap (alive now) is ∙ ap (λ b. cond b (Some kept) None) (lt-ltb now kept.value above)

-- the nodes above the clock are as they were, and each node that is left is noted
pub record IsExpiring (now : ℕ) (old new : List Placed) (dues : List (Due Spot)) : Type 0 where
  pub lives : (id : Spot) → alive now (kept_of new id) ≡ alive now (kept_of old id)
  pub noted : AreNotedAt new dues

-- what lives at a clock does so at it again
alive_twice : (now : ℕ) (found : Option Kept) → alive now (alive now found) ≡ alive now found
alive_twice now None = refl
alive_twice now (Some node) = by (nat_lt now node.value) refl
  where
    by : (b : Bool) → nat_lt now node.value ≡ b →
        alive now (cond b (Some node) None) ≡ cond b (Some node) None
    by true is = ap (λ (test : Bool). cond test (Some node) None) is
    by false is = refl

module _ (now : ℕ) (old new : List Placed) (id : Spot)
    (update : (each : Spot) → kept_of new each ≡ cond (same_of id each)
    (alive now (kept_of old id)) (kept_of old each)) where
  -- a node that is dropped or noted lives as it did
  pub alive_after : (each : Spot) → alive now (kept_of new each) ≡ alive now (kept_of old each)
  alive_after each = ap (alive now) (update each) ∙ by (same_of id each) refl
    where
      by : (b : Bool) → same_of id each ≡ b →
          alive now (cond b (alive now (kept_of old id)) (kept_of old each)) ≡ alive now
          (kept_of old each)
      by true same = alive_twice now (kept_of old id)
          ∙ ap (λ place. alive now (kept_of old place)) (same_of_is id each same)
      by false other = refl

  -- and all that are left are noted
  pub noted_after : (dues rest last : List (Due Spot)) (next : Due Spot) → next.item ≡ id →
      AreNotedAt old dues → IsPermutation dues (next ∷ rest) → KeepsNoted rest last →
      ((node : Kept) → kept_of new id ≡ Some node → Contains last (due id node.value)) →
      AreNotedAt new last
  noted_after dues rest last next item noted moved keeps here each node is = by (same_of id each) refl
    where
      apart : same_of id each ≡ false → id ≡ each → ⊥
      apart other at = true≢false (sym (same_of_laws.refl id) ∙ ap (same_of id) at ∙ other)

      same_due : (place : Spot) (other : ℕ) → next ≡ due place other → id ≡ place
      same_due place other is = sym item ∙ ap (λ (d : Due Spot). d.item) is

      by : (b : Bool) → same_of id each ≡ b →
          (bound : ℕ) × (bound ≤ node.value) × Contains last (due each bound)
      by true same =
          let at : id ≡ each = same_of_is id each same in (
            node.value,
            omega arith,
            subst (λ place. Contains last (due place node.value)) at
                (here node (ap (kept_of new) at ∙ is)),
          )
      by false other =
          let (bound, enough, there) = noted each node
          (sym (ap (λ b. cond b (alive now (kept_of old id)) (kept_of old each)) other)
          ∙ sym (update each) ∙ is) in (
            bound,
            enough,
            elim (left_over dues rest next (due each bound) moved there) [
              | inl kept ↦ keeps (due each bound) kept
              | inr taken ↦ absurd (apart other (same_due each bound taken))
            ],
          )

  pub expiring_after : (first : List Placed) (dues rest last : List (Due Spot))
      (next : Due Spot) → next.item ≡ id → IsExpiring now first old dues →
      TakesNext now dues rest next → KeepsNoted rest last →
      ((node : Kept) → kept_of new id ≡ Some node → Contains last (due id node.value)) →
      IsExpiring now first new last
  expiring_after first dues rest last next item expiring takes keeps here = record {
    lives = λ each. alive_after each ∙ expiring.lives each;
    noted = noted_after dues rest last next item expiring.noted takes.taken keeps here;
  }

-- where none is due any more, all that are left are above the clock
pub all_alive : (now : ℕ) (old new : List Placed) (dues : List (Due Spot)) →
    IsExpiring now old new dues →
    AllAbove now dues →
    (id : Spot) → kept_of new id ≡ alive now (kept_of old id)
all_alive now old new dues expiring later id = by (kept_of new id) refl ∙ expiring.lives id
  where
    by : (found : Option Kept) → kept_of new id ≡ found → found ≡ alive now found
    by None is = refl
    by (Some node) is =
        let (value, enough, there) = expiring.noted id node is in
        let above = later (due id value) there in
        sym (lives_on now (Some node) node refl (omega (arith, enough, above)))

-- ---- the nodes that were taken out

-- what is left stood before, and these are the nodes that are due and gone, each once
pub record AreGone (now : ℕ) (old new : List Placed) (ids : List Spot) : Type 0 where
  pub stood : (id : Spot) (node : Kept) → kept_of new id ≡ Some node →
      kept_of old id ≡ Some node
  pub sound : (id : Spot) → Contains ids id → IsDueIn old now id × (kept_of new id ≡ None)
  pub complete : (id : Spot) → IsDueIn old now id → kept_of new id ≡ None → Contains ids id
  pub once : IsDistinct same_of ids

-- none at first
pub none_gone : (now : ℕ) (nodes : List Placed) → AreGone now nodes nodes []
none_gone now nodes = record {
  stood = λ id node is. is;
  sound = λ id (k, within, is). absurd (omega (arith, within));
  complete = λ id (node, is, _) none. absurd (none_or_some node (sym none ∙ is));
  once = nothing_once;
}

module _ (now : ℕ) (first old new : List Placed) (id : Spot)
    (update : (each : Spot) → kept_of new each ≡ cond (same_of id each)
    (alive now (kept_of old id)) (kept_of old each)) (ids : List Spot)
    (gone : AreGone now first old ids) where
  -- a place is the one that is looked at, or is as it was
  place_cases : (each : Spot) →
      ((id ≡ each) × (kept_of new each ≡ alive now (kept_of old each)))
      ⊎ (kept_of new each ≡ kept_of old each)
  place_cases each = by (same_of id each) refl
    where
      changed : (b : Bool) → same_of id each ≡ b →
          kept_of new each ≡ cond b (alive now (kept_of old id)) (kept_of old each)
      changed b is =
          update each ∙ ap (λ b. cond b (alive now (kept_of old id)) (kept_of old each)) is

      by : (b : Bool) → same_of id each ≡ b →
          ((id ≡ each) × (kept_of new each ≡ alive now (kept_of old each)))
          ⊎ (kept_of new each ≡ kept_of old each)
      by true same =
          let at : id ≡ each = same_of_is id each same in
          inl (at, changed true same ∙ ap (λ place. alive now (kept_of old place)) at)
      by false other = inr (changed false other)

  stood_after : (each : Spot) (node : Kept) → kept_of new each ≡ Some node →
      kept_of first each ≡ Some node
  stood_after each node is = elim (place_cases each) [
    | inl (at, here) ↦ gone.stood each node
        (alive_some now (kept_of old each) node (sym here ∙ is)).0
    | inr kept ↦ gone.stood each node (sym kept ∙ is)
  ]

  none_after : (each : Spot) → kept_of old each ≡ None → kept_of new each ≡ None
  none_after each none = elim (place_cases each) [
    | inl (at, here) ↦ here ∙ ap (alive now) none
    | inr kept ↦ kept ∙ none
  ]

  -- where none is any more, none was before, or it is this place
  none_before : (each : Spot) → kept_of new each ≡ None →
      (kept_of old each ≡ None) ⊎ (id ≡ each)
  none_before each none = elim (place_cases each) [
    | inl (at, here) ↦ inr at
    | inr kept ↦ inl (sym kept ∙ none)
  ]

  -- one more, which is due
  pub one_gone : IsDueIn old now id → AreGone now first new (ids ++ id ∷ [])
  one_gone (node, is, reached) = record {
    stood = stood_after;
    sound = λ each has. elim (Contains-push_cases ids id each has) [
      | inl before ↦
          let (was, none) = gone.sound each before in (was, none_after each none)
      | inr at ↦
          subst (λ place. IsDueIn first now place × (kept_of new place ≡ None)) at
          ((node, gone.stood id node is, reached), none_here)
    ];
    complete = λ each was none. elim (none_before each none) [
      | inl before ↦ Contains-append_left ids (id ∷ []) each (gone.complete each was before)
      | inr at ↦ subst (Contains (ids ++ id ∷ [])) at (Contains-push ids id)
    ];
    once = IsDistinct-push same_of_laws ids id gone.once (apart (list_any (same_of id) ids) refl);
  }
    where
      none_here : kept_of new id ≡ None
      none_here =
          update id
          ∙ changed_here (kept_of old id) id (alive now (kept_of old id))
          ∙ alive_gone now (kept_of old id) node is reached

      apart : (b : Bool) → list_any (same_of id) ids ≡ b → b ≡ false
      apart true has =
          absurd (none_or_some node
          (sym (gone.sound id (Contains-from_any same_of_is id ids has)).1 ∙ is))
      apart false none = refl

  -- none more, where none is due there
  pub no_more_gone : (IsDueIn old now id → ⊥) → AreGone now first new ids
  no_more_gone free = record {
    stood = stood_after;
    sound = λ each has. let (was, none) = gone.sound each has in (was, none_after each none);
    complete = λ each was none. elim (none_before each none) [
      | inl before ↦ gone.complete each was before
      | inr at ↦ here each at was (kept_of old each) refl
    ];
    once = gone.once;
  }
    where
      here : (each : Spot) → id ≡ each → IsDueIn first now each → (found : Option Kept) →
          kept_of old each ≡ found → Contains ids each
      here each at was None none = gone.complete each was none
      here each at (node, is, reached) (Some other) there =
          let same : node ≡ other =
          same_found (kept_of first each) node other is (gone.stood each other there) in
          absurd (free (subst (IsDueIn old now) (sym at) (
            other,
            there,
            subst (λ (n : Kept). n.value ≤ now) same reached,
          )))

-- what follows from a fact of an outcome and one of the next, which is good only behind a good one
pub both_ok : {T E P Q R : Type 0} (first second : Result T E) → OnOk first P →
    OnOk second (IsOk first) → OnOk second Q → (P → Q → R) → OnOk second R
both_ok first (Err fault) one after other both = tt
both_ok (Ok x) (Ok y) one after other both = both one other
both_ok (Err fault) (Ok y) one after other both = absurd cc

-- what follows from a fact of an outcome
pub told_ok : {T E P R : Type 0} (outcome : Result T E) → OnOk outcome P → (P → R) →
    OnOk outcome R
told_ok (Ok x) one gives = gives one
told_ok (Err fault) one gives = tt

-- ---- the list of what was lost

-- the place of the root
abbrev lost_spot : Lost → Spot
lost_spot lost = record { root = lost.root; id = lost.id }

-- it had this value there
abbrev IsLossOf : List Placed → Lost → Type 0
IsLossOf places lost =
    (kept : Kept) × (kept_of places (lost_spot lost) ≡ Some kept) × (kept.value ≡ lost.before)

-- these are the losses of the nodes that are due and gone
pub record AreTold (now : ℕ) (old new : List Placed) (all : List Lost) : Type 0 where
  pub gone : AreGone now old new (map lost_spot all)
  pub losses : All (IsLossOf old) all

-- none at first
pub none_told : (now : ℕ) (places : List Placed) → AreTold now places places []
none_told now places = record { gone = none_gone now places; losses = All-nil (IsLossOf places) }

-- one more where one was taken out
pub told_after : (now : ℕ) (first old new : List Placed) (id : Spot) →
    ((each : Spot) → kept_of new each ≡ cond (same_of id each)
    (alive now (kept_of old id)) (kept_of old each)) →
    (all : List Lost) → AreTold now first old all → (value : Option ℕ) →
    MatchOption value (IsNotDue old now id.root id.id) (IsDueWith old now id.root id.id) →
    AreTold now first new (with_lost all id value)
told_after now first old new id update all told None free = record {
  gone = no_more_gone now first old new id update (map lost_spot all) told.gone
      (λ (kept, is, reached). omega (arith, free kept is, reached));
  losses = told.losses;
}
told_after now first old new id update all told (Some value) (kept, is, same, reached) = record {
  gone = subst (AreGone now first new)
      (sym (map-append lost_spot all (lost_of id value ∷ [])))
      (one_gone now first old new id update (map lost_spot all) told.gone
      (kept, is, omega (arith, same, reached)));
  losses = All-push (IsLossOf first) all (lost_of id value) told.losses
      (kept, told.gone.stood id kept is, same);
}

-- ---- the list as callers see it

distinct_back : (all : List Lost) → IsDistinct same_of (map lost_spot all) → IsDistinct same_lost all
distinct_back all once = IsDistinct-from_apart same_lost all (λ i j d below within.
    (λ k. same_of
    (sym (get_or-map lost_spot all i d (lost_spot d) (omega (arith, below, within))) k)
    (sym (get_or-map lost_spot all j d (lost_spot d) within) k))
    ∙ apart_from_distinct same_of (map lost_spot all) i j (lost_spot d) once below
    (omega (arith, within, length-map all lost_spot)))

-- this was kept there, and had this value, for which the clock has come
abbrev pub WasDue : List Placed → ℕ → Lost → Type 0
WasDue places now lost =
    (kept : Kept) × (kept_of places (lost_spot lost) ≡ Some kept) × (kept.value ≡ lost.before)
    × (kept.value ≤ now)

-- all that was due is in the list, and nothing else
pub all_told : (now : ℕ) (places new : List Placed) (all : List Lost) → AreTold now places new all →
    ((one : Spot) → kept_of new one ≡ alive now (kept_of places one)) →
    ((lost : Lost) → Contains all lost ↔ WasDue places now lost) × IsDistinct same_lost all
all_told now places new all told alive_now =
    ((λ lost. (sound lost, complete lost)), distinct_back all told.gone.once)
  where
    sound : (lost : Lost) → Contains all lost → WasDue places now lost
    sound lost (k, within, is) =
        let (kept, at, same) = subst (IsLossOf places) is (told.losses k lost within) in
        let ((other, there, reached), gone) = told.gone.sound (lost_spot lost) (
          k,
          omega (arith, length-map all lost_spot, within),
          get_or-map lost_spot all k lost (lost_spot lost) within ∙ ap lost_spot is,
        ) in (
          kept,
          at,
          same,
          subst (λ (each : Kept). each.value ≤ now)
              (same_found (kept_of places (lost_spot lost)) other kept there at) reached,
        )

    complete : (lost : Lost) → WasDue places now lost → Contains all lost
    complete lost (kept, is, same, reached) =
        let (k, within, at) = told.gone.complete (lost_spot lost) (kept, is, reached)
        (alive_now (lost_spot lost)
        ∙ alive_gone now (kept_of places (lost_spot lost)) kept is reached) in
        let inside : k < length all = omega (arith, length-map all lost_spot, within) in
        let spots : lost_spot (get_or all k lost) ≡ lost_spot lost =
        sym (get_or-map lost_spot all k lost (lost_spot lost) inside) ∙ at in
        let (own, there, value) = told.losses k lost inside in
        let one : own ≡ kept =
        some_is_one own kept (sym there ∙ ap (kept_of places) spots ∙ is) in
        let before : (get_or all k lost).before ≡ lost.before =
        sym value ∙ ap (λ (each : Kept). each.value) one ∙ same in (
          k,
          inside,
          λ i. record {
            root = (spots i).root;
            id = (spots i).id;
            before = before i;
          },
        )
