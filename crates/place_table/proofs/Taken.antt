-- Nodes of one root that were taken out.
use Rattle.std.proofs.Common.{◌≡◌, ◌+◌, ◌≤◌, ◌<◌, ℕ, zero, suc, inl, inr, ◌∷◌, [], Bool, true, false, ◌&&◌, ◌||◌, cond, List, take, Option, None, Some, option_map, is_some, get_or, length, slice_get, slice_set, refl, sym, ap, subst, ◌∙◌, true≢false, nat_eq, arith}
use Rattle.std.specs.List.{list_any}
use Rattle.std.proofs.lemmas.Bool.{eqb-true, cases_eq}
use Rattle.std.proofs.lemmas.List.{length-map}
use Rattle.std.proofs.lemmas.List.Folds.{list_any_more}
use Rattle.std.proofs.lemmas.Option.{slice_get_within, slice_get-map}
use Rattle.small_map.proofs.Entries.{none_or_some, some_is_one, by_test}
use Rattle.delta_tree.specs.declared.node.NodeId.{NodeId}
use Rattle.delta_tree.specs.Nodes.{same_node}
use Rattle.delta_tree.proofs.Ids.{same_node_is, same_node_laws}
use Rattle.place_table.specs.declared.place.Kept.{Kept}
use Rattle.place_table.specs.Kept.{Placed, kept_at, same_spot, PutsAt, IsThere}
use Rattle.place_table.specs.Links.{KeepsKept, placed_ids}
use Rattle.place_table.proofs.Entered.{number_laws}
use Rattle.place_table.proofs.Found.{read_is, there_in}
use Rattle.place_table.proofs.Reached.{place_of_kept}
use Rattle.place_table.proofs.Seen.{same_spot_is}

-- ---- one place

-- a place that stays the same one
ids_set : (places : List Placed) (number : ℕ) (place new : Placed) →
    slice_get places number ≡ Some place → new.id ≡ place.id →
    placed_ids (slice_set places number new) ≡ placed_ids places
ids_set [] number place new at same = absurd (none_or_some place at)
ids_set (head ∷ rest) zero place new at same = ap (λ (id : NodeId). id ∷ placed_ids rest)
    (same ∙ ap (λ (p : Placed). p.id) (sym (some_is_one head place at)))
ids_set (head ∷ rest) (suc number) place new at same =
    ap (λ (ids : List NodeId). head.id ∷ ids) (ids_set rest number place new at same)

pub ids_read : (places now : List Placed) (id : NodeId) (number : ℕ) (old new : Placed) →
    places ≡ now → IsThere now id number → old ≡ get_or places number old → new.id ≡ old.id →
    placed_ids (slice_set places number new) ≡ placed_ids now
ids_read places now id number old new same there read named =
    let (place, at, is) = there_in places now id number same there in
    ids_set places number place new at
    (named ∙ ap (λ (p : Placed). p.id) (read_is places number place old at read))
    ∙ ap (λ (l : List Placed). placed_ids l) same

-- where the root has no node, nothing goes
pub none_taken : (places : List Placed) (root : ℕ) (id : NodeId) → kept_at places root id ≡ None →
    PutsAt places places root id None
none_taken places root id none each at = by_test (same_spot root id each at)
    (λ same. here (same_spot_is root id each at same)
    ∙ sym (ap (λ b. cond b None (kept_at places each at)) same))
    (λ apart. sym (ap (λ b. cond b None (kept_at places each at)) apart))
  where
    here : (root ≡ each) × (id ≡ at) → kept_at places each at ≡ None
    here (roots, ids) = (λ i. kept_at places (sym roots i) (sym ids i)) ∙ none

pub is_none : (found : Option Kept) → is_some found ≡ false → found ≡ None
is_none None is = refl
is_none (Some kept) is = absurd (true≢false is)

-- the place of this number is the one that was read
pub taken_there : (old new : List Placed) (number root : ℕ) (read place : Placed) (id : NodeId) →
    slice_get old number ≡ Some read → id ≡ read.id → PutsAt old new root id None →
    slice_get old number ≡ Some place → PutsAt old new root place.id None
taken_there old new number root read place id here named update there =
    subst (λ (at : NodeId). PutsAt old new root at None)
    (named ∙ ap (λ (p : Placed). p.id) (some_is_one read place (sym here ∙ there))) update

-- the other roots keep theirs
pub others_more : (before now new : List Placed) (root : ℕ) (id : NodeId) (kept : Option Kept) →
    KeepsKept before now root → PutsAt now new root id kept → KeepsKept before new root
others_more before now new root id kept others update other apart each =
    update other each
    ∙ ap (λ b. cond (b && same_node id each) kept (kept_at now other each)) apart_so
    ∙ others other apart each
  where
    apart_so : nat_eq root other ≡ false
    apart_so = by_test (nat_eq root other)
        (λ same. absurd (apart (eqb-true root other same))) (λ no. no)

-- ---- some places, one after another

joined : {X : Type 0} (first second : Bool) (found : Option X) →
    cond second None (cond first None found) ≡ cond (first || second) None found
joined true true found = refl
joined true false found = refl
joined false true found = refl
joined false false found = refl

-- one node more is out
pub out_more : (before now new : List Placed) (root : ℕ) (ids : List NodeId) (k : ℕ)
    (default : NodeId) →
    ((id : NodeId) → kept_at now root id
    ≡ cond (list_any (same_node id) (take k ids)) None (kept_at before root id)) →
    PutsAt now new root (get_or ids k default) None → k < length ids → (id : NodeId) →
    kept_at new root id
    ≡ cond (list_any (same_node id) (take (k + 1) ids)) None (kept_at before root id)
out_more before now new root ids k default so_far update within id =
    update root id
    ∙ ap (λ b. cond (b && same_node one id) None (kept_at now root id)) (number_laws.refl root)
    ∙ ap (λ found. cond (same_node one id) None found) (so_far id)
    ∙ ap (λ b. cond b None (cond so None (kept_at before root id))) (same_node_laws.symm one id)
    ∙ joined so (same_node id one) (kept_at before root id)
    ∙ ap (λ b. cond b None (kept_at before root id))
    (sym (list_any_more (same_node id) ids k default within))
  where
    one : NodeId
    one = get_or ids k default

    so : Bool
    so = list_any (same_node id) (take k ids)

-- ---- all places, one after another

-- the root's nodes stand from this number on
abbrev pub StandFrom : List Placed → ℕ → ℕ → Type 0
StandFrom places root number = (id : NodeId) (kept : Kept) → kept_at places root id ≡ Some kept →
    (k : ℕ) × (number ≤ k) × (slice_get (placed_ids places) k ≡ Some id)

id_at : (places : List Placed) (k : ℕ) (place : Placed) → slice_get places k ≡ Some place →
    slice_get (placed_ids places) k ≡ Some place.id
id_at places k place at =
    slice_get-map (λ (p : Placed). p.id) places k ∙ ap (option_map (λ (p : Placed). p.id)) at

pub stand_from_first : (places : List Placed) (root : ℕ) → StandFrom places root 0
stand_from_first places root id kept is =
    let (number, place, at, same) = place_of_kept places root id kept is in (
      number,
      omega arith,
      id_at places number place at ∙ ap Some (sym (same_node_is id place.id same)),
    )

place_at : (places : List Placed) (k : ℕ) → k < length places →
    (place : Placed) × (slice_get places k ≡ Some place)
place_at [] k within = absurd (omega (arith, within))
place_at (place ∷ places) zero within = (place, refl)
place_at (place ∷ places) (suc k) within = place_at places k (omega (arith, within))

pub stand_from_next : (old new : List Placed) (root number : ℕ) → StandFrom old root number →
    number < length old →
    ((place : Placed) → slice_get old number ≡ Some place → PutsAt old new root place.id None) →
    placed_ids new ≡ placed_ids old → StandFrom new root (number + 1)
stand_from_next old new root number stand within taken ids id kept is =
    let (place, at) = place_at old number within in
    by_test (same_node place.id id) (gone place at) (stays place at)
  where
    update : (place : Placed) → slice_get old number ≡ Some place → kept_at new root id
        ≡ cond (same_node place.id id) None (kept_at old root id)
    update place at =
        taken place at root id
        ∙ ap (λ b. cond (b && same_node place.id id) None (kept_at old root id))
        (number_laws.refl root)

    gone : (place : Placed) → slice_get old number ≡ Some place → same_node place.id id ≡ true →
        (k : ℕ) × (number + 1 ≤ k) × (slice_get (placed_ids new) k ≡ Some id)
    gone place at same = absurd (none_or_some kept
        (sym (update place at ∙ ap (λ b. cond b None (kept_at old root id)) same) ∙ is))

    stays : (place : Placed) → slice_get old number ≡ Some place → same_node place.id id ≡ false →
        (k : ℕ) × (number + 1 ≤ k) × (slice_get (placed_ids new) k ≡ Some id)
    stays place at apart =
        let (k, from, there) = stand id kept
        (sym (update place at ∙ ap (λ b. cond b None (kept_at old root id)) apart) ∙ is) in
        elim (cases_eq k number) [
          | inl same ↦
              let named : place.id ≡ id = some_is_one place.id id
              (sym (id_at old number place at) ∙ ap (slice_get (placed_ids old)) (sym same)
              ∙ there) in
              absurd (true≢false (sym (same_node_laws.refl id)
              ∙ ap (λ (each : NodeId). same_node each id) (sym named) ∙ apart))
          | inr other ↦ (
            k,
            omega (arith, from, other),
            ap (λ (l : List NodeId). slice_get l k) ids ∙ there,
          )
        ]

pub others_here : (before now new : List Placed) (root number : ℕ) → KeepsKept before now root →
    number < length now →
    ((place : Placed) → slice_get now number ≡ Some place → PutsAt now new root place.id None) →
    KeepsKept before new root
others_here before now new root number others within taken =
    let (place, at) = place_at now number within in
    others_more before now new root place.id None others (taken place at)

pub none_stands : (first places : List Placed) (root number : ℕ) → StandFrom places root number →
    placed_ids places ≡ placed_ids first → length first ≤ number → (id : NodeId) →
    kept_at places root id ≡ None
none_stands first places root number stand ids all id = by (kept_at places root id) refl
  where
    by : (found : Option Kept) → kept_at places root id ≡ found → kept_at places root id ≡ None
    by None is = is
    by (Some kept) is =
        let (k, from, there) = stand id kept is in
        absurd (omega (
          arith,
          from,
          all,
          slice_get_within (placed_ids places) k id there,
          ap (λ (l : List NodeId). length l) ids,
          length-map first (λ (p : Placed). p.id),
        ))

pub same_length : (first places : List Placed) → placed_ids places ≡ placed_ids first →
    length places ≡ length first
same_length first places ids =
    sym (length-map places (λ (p : Placed). p.id)) ∙ ap (λ (l : List NodeId). length l) ids
    ∙ length-map first (λ (p : Placed). p.id)
