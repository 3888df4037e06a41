-- What is kept of nodes, by look-ups, and where places are found.
use Rattle.std.proofs.lemmas.Option.{slice_get_read, slice_get_within}
use Rattle.std.proofs.Common.{get_or, Result, Ok, Err, OnOk, OnErr, ◌≡◌, ◌≤◌, ◌<◌, ◌⊎◌, inl, inr, ℕ, zero, suc, ◌++◌, ◌∷◌, [], Bool, true, false, cond, ◌&&◌, List, Option, None, Some, length, slice_get, slice_set, refl, sym, ap, subst, ◌∙◌, true≢false, nat_eq, arith}
use Rattle.std.specs.Map.{lookup}
use Rattle.small_map.proofs.Entries.{none_or_some, some_is_one, by_test, set_there}
use Rattle.delta_tree.specs.declared.node.NodeId.{NodeId}
use Rattle.delta_tree.specs.Nodes.{same_node}
use Rattle.delta_tree.proofs.Ids.{same_node_is, same_node_laws}
use Rattle.place_table.specs.declared.place.Kept.{Kept}
use Rattle.place_table.specs.Kept.{Placed, with_kept, kept_nodes, kept_at, same_spot, PutsAt, KeepSame, hint_of, AreHinted, IsThere, IsAbsent}

-- ---- one place more in a look-up

pub passed : (found : Option Kept) (at id : NodeId) (rest : List (NodeId × Kept)) →
    same_node id at ≡ false →
    lookup (same_node id) (with_kept at found rest) ≡ lookup (same_node id) rest
passed None at id rest other = refl
passed (Some kept) at id rest other =
    ap (λ b. cond b (Some kept) (lookup (same_node id) rest)) other

found_here : (found : Option Kept) (at id : NodeId) (rest : List (NodeId × Kept)) →
    same_node id at ≡ true → lookup (same_node id) rest ≡ None →
    lookup (same_node id) (with_kept at found rest) ≡ found
found_here None at id rest same none = none
found_here (Some kept) at id rest same none =
    ap (λ b. cond b (Some kept) (lookup (same_node id) rest)) same

with_same : (found : Option Kept) (at id : NodeId) (xs ys : List (NodeId × Kept)) →
    lookup (same_node id) xs ≡ lookup (same_node id) ys →
    lookup (same_node id) (with_kept at found xs) ≡ lookup (same_node id) (with_kept at found ys)
with_same None at id xs ys same = same
with_same (Some kept) at id xs ys same = ap (cond (same_node id at) (Some kept)) same

-- ---- what is found

-- nothing is kept at a place that isn't one
pub absent_none : (places : List Placed) (root : ℕ) (id : NodeId) → IsAbsent places id →
    kept_at places root id ≡ None
absent_none [] root id absent = refl
absent_none (place ∷ places) root id absent =
    passed (lookup (nat_eq root) place.nodes) place.id id (kept_nodes places root)
    (absent zero place refl)
    ∙ absent_none places root id (λ number each at. absent (suc number) each at)

-- no other place has the number
abbrev IsOnly : List Placed → NodeId → ℕ → Type 0
IsOnly places id number = (other : ℕ) (each : Placed) → slice_get places other ≡ Some each →
    same_node id each.id ≡ true → other ≡ number

-- what the place keeps
there_found : (places : List Placed) (root : ℕ) (id : NodeId) (number : ℕ) (place : Placed) →
    slice_get places number ≡ Some place → same_node id place.id ≡ true → IsOnly places id number →
    kept_at places root id ≡ lookup (nat_eq root) place.nodes
there_found [] root id number place at same only = absurd (none_or_some place at)
there_found (head ∷ rest) root id zero place at same only =
    let is : head ≡ place = some_is_one head place at in
    found_here (lookup (nat_eq root) head.nodes) head.id id (kept_nodes rest root)
    (ap (λ (each : Placed). same_node id each.id) is ∙ same)
    (absent_none rest root id others)
    ∙ ap (λ (each : Placed). lookup (nat_eq root) each.nodes) is
  where
    others : IsAbsent rest id
    others other each there = by_test (same_node id each.id)
        (λ here. absurd (omega (arith, only (suc other) each there here)))
        (λ apart. apart)
there_found (head ∷ rest) root id (suc number) place at same only =
    passed (lookup (nat_eq root) head.nodes) head.id id (kept_nodes rest root) first
    ∙ there_found rest root id number place at same
    (λ other each there here. omega (arith, only (suc other) each there here))
  where
    first : same_node id head.id ≡ false
    first = by_test (same_node id head.id)
        (λ here. absurd (omega (arith, only zero head refl here)))
        (λ apart. apart)

-- a place stands once
only_one : (rows : List (List (ℕ × ℕ))) (places : List Placed) → AreHinted rows places →
    (id : NodeId) (number : ℕ) (place : Placed) → slice_get places number ≡ Some place →
    same_node id place.id ≡ true → IsOnly places id number
only_one rows places hinted id number place at same other each there here =
    some_is_one other number
    (sym (hinted other each there)
    ∙ ap (hint_of rows) (sym (same_node_is id each.id here) ∙ same_node_is id place.id same)
    ∙ hinted number place at)

-- what is kept at a place
pub kept_there : (rows : List (List (ℕ × ℕ))) (places : List Placed) → AreHinted rows places →
    (root : ℕ) (id : NodeId) (number : ℕ) (place : Placed) → slice_get places number ≡ Some place →
    same_node id place.id ≡ true → kept_at places root id ≡ lookup (nat_eq root) place.nodes
kept_there rows places hinted root id number place at same =
    there_found places root id number place at same
    (only_one rows places hinted id number place at same)

-- ---- another place in the place of one

pub set_cases : {X : Type 0} (xs : List X) (number : ℕ) (y : X) (other : ℕ) (x : X) →
    slice_get (slice_set xs number y) other ≡ Some x →
    (slice_get xs other ≡ Some x) ⊎ ((other ≡ number) × (x ≡ y))
set_cases [] number y other x at = inl at
set_cases (z ∷ zs) zero y zero x at = inr (refl, some_is_one x y (sym at))
set_cases (z ∷ zs) zero y (suc other) x at = inl at
set_cases (z ∷ zs) (suc number) y zero x at = inl at
set_cases (z ∷ zs) (suc number) y (suc other) x at = elim (set_cases zs number y other x at) [
  | inl before ↦ inl before
  | inr (same, is) ↦ inr (ap (λ n. suc n) same, is)
]

pub push_cases : {X : Type 0} (xs : List X) (y : X) (other : ℕ) (x : X) →
    slice_get (xs ++ y ∷ []) other ≡ Some x →
    (slice_get xs other ≡ Some x) ⊎ ((other ≡ length xs) × (x ≡ y))
push_cases [] y zero x at = inr (refl, some_is_one x y (sym at))
push_cases [] y (suc other) x at = absurd (none_or_some x at)
push_cases (z ∷ zs) y zero x at = inl at
push_cases (z ∷ zs) y (suc other) x at = elim (push_cases zs y other x at) [
  | inl before ↦ inl before
  | inr (same, is) ↦ inr (ap (λ n. suc n) same, is)
]

-- a place that keeps its number and its vertex and state
pub hinted_set : (rows : List (List (ℕ × ℕ))) (places : List Placed) (number : ℕ)
    (place new : Placed) → AreHinted rows places → slice_get places number ≡ Some place →
    new.id ≡ place.id → AreHinted rows (slice_set places number new)
hinted_set rows places number place new hinted at same other each there =
    elim (set_cases places number new other each there) [
      | inl before ↦ hinted other each before
      | inr (here, is) ↦
          ap (λ (p : Placed). hint_of rows p.id) is ∙ ap (hint_of rows) same
          ∙ hinted number place at ∙ ap Some (sym here)
    ]

-- a place that is noted anew
noted_anew : (rows more : List (List (ℕ × ℕ))) (places : List Placed) (id : NodeId) (number : ℕ) →
    AreHinted rows places → IsAbsent places id →
    ((each : NodeId) → hint_of more each ≡ cond (same_node id each) (Some number) (hint_of rows each)) →
    AreHinted more places
noted_anew rows more places id number hinted absent update other each at =
    update each.id
    ∙ ap (λ b. cond b (Some number) (hint_of rows each.id)) (absent other each at)
    ∙ hinted other each at

noted_here : (rows more : List (List (ℕ × ℕ))) (id : NodeId) (number : ℕ) →
    ((each : NodeId) → hint_of more each ≡ cond (same_node id each) (Some number) (hint_of rows each)) →
    hint_of more id ≡ Some number
noted_here rows more id number update =
    update id ∙ ap (λ b. cond b (Some number) (hint_of rows id)) (same_node_laws.refl id)

-- a place behind the others
pub hinted_push : (rows more : List (List (ℕ × ℕ))) (places : List Placed) (new : Placed)
    (id : NodeId) (number : ℕ) → number ≡ length places → AreHinted rows places →
    IsAbsent places id →
    ((each : NodeId) → hint_of more each ≡ cond (same_node id each) (Some number) (hint_of rows each)) →
    new.id ≡ id → AreHinted more (places ++ new ∷ [])
hinted_push rows more places new id number count hinted absent update same other each there =
    elim (push_cases places new other each there) [
      | inl before ↦
          noted_anew rows more places id number hinted absent update other each before
      | inr (here, is) ↦
          ap (λ (p : Placed). hint_of more p.id) is ∙ ap (hint_of more) same
          ∙ noted_here rows more id number update ∙ ap Some (count ∙ sym here)
    ]

-- a place that becomes another
pub hinted_renamed : (rows more : List (List (ℕ × ℕ))) (places : List Placed) (new : Placed)
    (id : NodeId) (number : ℕ) → AreHinted rows places → IsAbsent places id →
    ((each : NodeId) → hint_of more each ≡ cond (same_node id each) (Some number) (hint_of rows each)) →
    new.id ≡ id → AreHinted more (slice_set places number new)
hinted_renamed rows more places new id number hinted absent update same other each there =
    elim (set_cases places number new other each there) [
      | inl before ↦
          noted_anew rows more places id number hinted absent update other each before
      | inr (here, is) ↦
          ap (λ (p : Placed). hint_of more p.id) is ∙ ap (hint_of more) same
          ∙ noted_here rows more id number update ∙ ap Some (sym here)
    ]

-- the same hints
pub hinted_same : (rows more : List (List (ℕ × ℕ))) (places : List Placed) →
    AreHinted rows places → ((each : NodeId) → hint_of more each ≡ hint_of rows each) →
    AreHinted more places
hinted_same rows more places hinted same other each at =
    same each.id ∙ hinted other each at

-- ---- places without roots

pub pushed_same : (places : List Placed) (new : Placed) → new.nodes ≡ [] →
    KeepSame places (places ++ new ∷ [])
pushed_same [] new none root =
    ap (λ (nodes : List (ℕ × Kept)). with_kept new.id (lookup (nat_eq root) nodes) []) none
pushed_same (place ∷ places) new none root =
    ap (with_kept place.id (lookup (nat_eq root) place.nodes)) (pushed_same places new none root)

pub renamed_same : (places : List Placed) (number : ℕ) (place new : Placed) →
    slice_get places number ≡ Some place → place.nodes ≡ [] → new.nodes ≡ [] →
    KeepSame places (slice_set places number new)
renamed_same [] number place new at none still root = absurd (none_or_some place at)
renamed_same (head ∷ rest) zero place new at none still root =
    ap (λ (nodes : List (ℕ × Kept)).
    with_kept new.id (lookup (nat_eq root) nodes) (kept_nodes rest root)) still
    ∙ sym (ap (λ (nodes : List (ℕ × Kept)).
    with_kept head.id (lookup (nat_eq root) nodes) (kept_nodes rest root))
    (ap (λ (p : Placed). p.nodes) (some_is_one head place at) ∙ none))
renamed_same (head ∷ rest) (suc number) place new at none still root =
    ap (with_kept head.id (lookup (nat_eq root) head.nodes))
    (renamed_same rest number place new at none still root)

-- ---- a change at one place

passed_set : (places : List Placed) (number : ℕ) (place new : Placed) (root : ℕ) (id : NodeId) →
    slice_get places number ≡ Some place → same_node id place.id ≡ false → new.id ≡ place.id →
    kept_at (slice_set places number new) root id ≡ kept_at places root id
passed_set [] number place new root id at apart same = absurd (none_or_some place at)
passed_set (head ∷ rest) zero place new root id at apart same =
    passed (lookup (nat_eq root) new.nodes) new.id id (kept_nodes rest root)
    (ap (same_node id) same ∙ apart)
    ∙ sym (passed (lookup (nat_eq root) head.nodes) head.id id (kept_nodes rest root)
    (ap (λ (p : Placed). same_node id p.id) (some_is_one head place at) ∙ apart))
passed_set (head ∷ rest) (suc number) place new root id at apart same =
    with_same (lookup (nat_eq root) head.nodes) head.id id
    (kept_nodes (slice_set rest number new) root) (kept_nodes rest root)
    (passed_set rest number place new root id at apart same)

and_true : (a b : Bool) → b ≡ true → a && b ≡ a
and_true true b is = is
and_true false b is = refl

and_false : (a b : Bool) → b ≡ false → a && b ≡ false
and_false true b is = is
and_false false b is = refl

-- what is kept of one root at one place changes with the place
pub puts_there : (rows : List (List (ℕ × ℕ))) (places : List Placed) (number : ℕ)
    (place new : Placed) (root : ℕ) (id : NodeId) (kept : Option Kept) → AreHinted rows places →
    slice_get places number ≡ Some place → place.id ≡ id → new.id ≡ place.id →
    ((each : ℕ) → lookup (nat_eq each) new.nodes
    ≡ cond (nat_eq root each) kept (lookup (nat_eq each) place.nodes)) →
    PutsAt places (slice_set places number new) root id kept
puts_there rows places number place new root id kept hinted at named same update each there =
    by_test (same_node id there) here elsewhere
  where
    after : List Placed
    after = slice_set places number new

    here : same_node id there ≡ true → kept_at after each there
        ≡ cond (same_spot root id each there) kept (kept_at places each there)
    here is =
        let own : same_node there place.id ≡ true =
        ap (same_node there) named ∙ same_node_laws.symm there id ∙ is in
        kept_there rows after (hinted_set rows places number place new hinted at same) each there
        number new (set_there places number place new at) (ap (same_node there) same ∙ own)
        ∙ update each
        ∙ sym (λ i. cond (and_true (nat_eq root each) (same_node id there) is i) kept
        (kept_there rows places hinted each there number place at own i))

    elsewhere : same_node id there ≡ false → kept_at after each there
        ≡ cond (same_spot root id each there) kept (kept_at places each there)
    elsewhere is =
        passed_set places number place new each there at
        (ap (same_node there) named ∙ same_node_laws.symm there id ∙ is) same
        ∙ sym (ap (λ b. cond b kept (kept_at places each there))
        (and_false (nat_eq root each) (same_node id there) is))

-- ---- as the code reads a place

-- what was read is the place
pub read_is : (places : List Placed) (number : ℕ) (place old : Placed) →
    slice_get places number ≡ Some place → old ≡ get_or places number old → old ≡ place
read_is places number place old at read =
    some_is_one old place
    (sym (slice_get_read places (length places) number old refl
    (slice_get_within places number place at) read) ∙ at)

pub there_in : (places now : List Placed) (id : NodeId) (number : ℕ) → places ≡ now →
    IsThere now id number → IsThere places id number
there_in places now id number same there =
    subst (λ (l : List Placed). IsThere l id number) (sym same) there

pub number_within : (places : List Placed) (id : NodeId) (number : ℕ) → IsThere places id number →
    number < length places
number_within places id number (place, at, named) = slice_get_within places number place at

pub puts_read : (rows : List (List (ℕ × ℕ))) (places now : List Placed) (number : ℕ)
    (old new : Placed) (root : ℕ) (id : NodeId) (kept : Option Kept) → AreHinted rows places →
    places ≡ now → IsThere now id number → old ≡ get_or places number old → new.id ≡ old.id →
    ((each : ℕ) → lookup (nat_eq each) new.nodes
    ≡ cond (nat_eq root each) kept (lookup (nat_eq each) old.nodes)) →
    PutsAt now (slice_set places number new) root id kept
puts_read rows places now number old new root id kept hinted same there read named update =
    let (place, at, is) = there_in places now id number same there in
    let one : old ≡ place = read_is places number place old at read in
    subst (λ (l : List Placed). PutsAt l (slice_set places number new) root id kept) same
    (puts_there rows places number place new root id kept hinted at is
    (named ∙ ap (λ (p : Placed). p.id) one)
    (λ each. update each ∙ ap (λ (p : Placed). cond (nat_eq root each) kept
    (lookup (nat_eq each) p.nodes)) one))

pub hinted_read : (rows : List (List (ℕ × ℕ))) (places now : List Placed) (number : ℕ)
    (old new : Placed) (id : NodeId) → AreHinted rows places → places ≡ now →
    IsThere now id number → old ≡ get_or places number old → new.id ≡ old.id →
    AreHinted rows (slice_set places number new)
hinted_read rows places now number old new id hinted same there read named =
    let (place, at, is) = there_in places now id number same there in
    hinted_set rows places number place new hinted at
    (named ∙ ap (λ (p : Placed). p.id) (read_is places number place old at read))

pub found_read : (rows : List (List (ℕ × ℕ))) (places now : List Placed) (root : ℕ) (id : NodeId)
    (number : ℕ) (old : Placed) → AreHinted rows places → places ≡ now →
    IsThere places id number → old ≡ get_or places number old →
    lookup (nat_eq root) old.nodes ≡ kept_at now root id
found_read rows places now root id number old hinted same (place, at, is) read =
    ap (λ (p : Placed). lookup (nat_eq root) p.nodes) (read_is places number place old at read)
    ∙ sym (kept_there rows places hinted root id number place at
    (ap (same_node id) is ∙ same_node_laws.refl id))
    ∙ ap (λ (l : List Placed). kept_at l root id) same

-- nothing goes where nothing is
pub takes_nothing : (places : List Placed) (root : ℕ) (id : NodeId) → IsAbsent places id →
    PutsAt places places root id None
takes_nothing places root id absent each at =
    by_test (same_spot root id each at)
    (λ is. ap (kept_at places each) (sym (same_node_is id at (and_right (nat_eq root each)
    (same_node id at) is))) ∙ absent_none places each id absent
    ∙ sym (ap (λ b. cond b None (kept_at places each at)) is))
    (λ is. sym (ap (λ b. cond b None (kept_at places each at)) is))
  where
    and_right : (a b : Bool) → (a && b) ≡ true → b ≡ true
    and_right true b is = is
    and_right false b is = absurd (true≢false (sym is))

-- what follows from a good outcome
pub ok_then : {T E P Q : Type 0} (outcome : Result T E) → OnOk outcome P → (P → Q) → OnOk outcome Q
ok_then (Ok x) one gives = gives one
ok_then (Err fault) one gives = tt

pub err_then : {T E P Q : Type 0} (outcome : Result T E) → OnErr outcome P → (P → Q) →
    OnErr outcome Q
err_then (Ok x) one gives = tt
err_then (Err fault) one gives = gives one

-- ---- as places are made

pub push_there : {X : Type 0} (xs : List X) (x : X) → slice_get (xs ++ x ∷ []) (length xs) ≡ Some x
push_there [] x = refl
push_there (y ∷ xs) x = push_there xs x

-- the place that was pushed
pub made_there : (places new : List Placed) (place : Placed) (id : NodeId) (number : ℕ) →
    new ≡ places ++ place ∷ [] → number ≡ length places → place.id ≡ id → IsThere new id number
made_there places new place id number is count named = (
  place,
  (λ i. slice_get (is i) (count i)) ∙ push_there places place,
  named,
)

pub made_same : (places new : List Placed) (place : Placed) → new ≡ places ++ place ∷ [] →
    place.nodes ≡ [] → KeepSame places new
made_same places new place is none root =
    ap (λ l. kept_nodes l root) is ∙ pushed_same places place none root

no_elements : {X : Type 0} (xs : List X) → length xs ≤ 0 → xs ≡ []
no_elements [] none = refl
no_elements (x ∷ xs) none = absurd (omega (arith, none))

module _ (places : List Placed) (number : ℕ) (seen old new : Placed)
    (within : number < length places) (read : seen ≡ get_or places number seen)
    (again : old ≡ get_or places number old) where
  at_old : slice_get places number ≡ Some old
  at_old = slice_get_read places (length places) number old refl within again

  -- a place without roots that becomes another
  pub reused_same : length seen.nodes ≤ 0 → new.nodes ≡ old.nodes →
      KeepSame places (slice_set places number new)
  reused_same none still =
      renamed_same places number old new at_old empty (still ∙ empty)
    where
      empty : old.nodes ≡ []
      empty =
          ap (λ (p : Placed). p.nodes) (sym (read_is places number old seen at_old read))
          ∙ no_elements seen.nodes none

  pub reused_there : (id : NodeId) → new.id ≡ id → IsThere (slice_set places number new) id number
  reused_there id named = (new, set_there places number old new at_old, named)

-- what holds anyway holds of a good outcome
pub ok_so : {T E P : Type 0} (outcome : Result T E) → P → OnOk outcome P
ok_so (Ok x) holds = holds
ok_so (Err fault) holds = tt
