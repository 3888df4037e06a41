-- The queue of the nodes that leave a table.
use Rattle.std.proofs.Common.{◌≡◌, ◌+◌, ◌≤◌, ◌<◌, ℕ, Bool, true, false, cond, nat_lt, List, Option, None, Some, option_map, Contains, refl, sym, ap, subst, ◌∙◌, arith}
use Rattle.std.specs.Map.{lookup}
use Rattle.std.proofs.lemmas.Bool.{lt-ltb, ltb-true}
use Rattle.std.proofs.lemmas.List.Sorted.{sum_by_pushed, sum_by_popped}
use Rattle.small_map.proofs.Entries.{none_or_some, some_is_one, by_test}
use Rattle.due_queue.specs.declared.due.Due.{Due}
use Rattle.due_queue.specs.Queue.{due, Notes, TakesNext}
use Rattle.due_queue.proofs.Items.{now_noted, still_noted}
use Rattle.delta_tree.specs.declared.node.NodeId.{NodeId}
use Rattle.delta_tree.specs.Nodes.{same_node}
use Rattle.place_table.specs.declared.spot.Spot.{Spot}
use Rattle.place_table.specs.declared.place.Kept.{Kept}
use Rattle.place_table.specs.Kept.{Placed, kept_at, same_spot, PutsAt, KeepSame}
use Rattle.place_table.specs.Queue.{spot, AreNoted, KeepsNoted, alive, pending}
use Rattle.place_table.proofs.Seen.{same_spot_is, same_spot_itself}

-- what is kept at a place after a change there
pub kept_here : (old new : List Placed) (root : ℕ) (id : NodeId) (kept : Option Kept) →
    PutsAt old new root id kept → kept_at new root id ≡ kept
kept_here old new root id kept update =
    update root id ∙ ap (λ b. cond b kept (kept_at old root id)) (same_spot_itself root id)

-- the same is kept
pub noted_same : (old new : List Placed) (dues : List (Due Spot)) → KeepSame old new →
    AreNoted old dues → AreNoted new dues
noted_same old new dues same noted root id kept is =
    noted root id kept (sym (ap (lookup (same_node id)) (same root)) ∙ is)

-- a node that was put, and is noted
pub noted_put : (old new : List Placed) (dues more : List (Due Spot)) (root : ℕ) (id : NodeId)
    (kept : Kept) → AreNoted old dues → PutsAt old new root id (Some kept) → KeepsNoted dues more →
    ((value : ℕ) × (value ≤ kept.value) × Contains more (due (spot root id) value)) →
    AreNoted new more
noted_put old new dues more root id kept noted update keeps own each at found is =
    by_test (same_spot root id each at) here elsewhere
  where
    here : same_spot root id each at ≡ true →
        (value : ℕ) × (value ≤ found.value) × Contains more (due (spot each at) value)
    here same =
        let (roots, ids) = same_spot_is root id each at same in
        let one : kept ≡ found = some_is_one kept found
        (sym (ap (λ b. cond b (Some kept) (kept_at old each at)) same) ∙ sym (update each at) ∙ is)
        in
        let (value, enough, there) = own in (
          value,
          subst (λ (k : Kept). value ≤ k.value) one enough,
          subst (λ (s : Spot). Contains more (due s value)) (λ i. spot (roots i) (ids i)) there,
        )

    elsewhere : same_spot root id each at ≡ false →
        (value : ℕ) × (value ≤ found.value) × Contains more (due (spot each at) value)
    elsewhere apart =
        let (value, enough, there) = noted each at found
        (sym (ap (λ b. cond b (Some kept) (kept_at old each at)) apart) ∙ sym (update each at) ∙ is)
        in
        (value, enough, keeps (due (spot each at) value) there)

-- a new one
pub noted_new : (old new : List Placed) (first dues more : List (Due Spot)) (root : ℕ) (id : NodeId)
    (kept : Kept) → AreNoted old first → dues ≡ first → PutsAt old new root id (Some kept) →
    Notes dues more (due (spot root id) kept.value) → AreNoted new more
noted_new old new first dues more root id kept noted same update notes =
    noted_put old new dues more root id kept (subst (AreNoted old) (sym same) noted) update
    (λ each there. still_noted dues more (due (spot root id) kept.value) each notes there)
    (kept.value, omega arith, now_noted dues more (due (spot root id) kept.value) notes)

-- one that is raised
pub noted_raised : (old new : List Placed) (first dues : List (Due Spot)) (root : ℕ) (id : NodeId)
    (kept : Kept) (before : Option ℕ) → AreNoted old first → dues ≡ first →
    PutsAt old new root id (Some kept) →
    before ≡ option_map (λ (k : Kept). k.value) (kept_at old root id) →
    ((one : Kept) → kept_at old root id ≡ Some one → one.value ≤ kept.value) →
    (value : ℕ) → before ≡ Some value → AreNoted new dues
noted_raised old new first dues root id kept before noted same update had raises value is =
    let noted_now : AreNoted old dues = subst (AreNoted old) (sym same) noted in
    noted_put old new dues dues root id kept noted_now update (λ each there. there)
    (by noted_now (kept_at old root id) refl (sym had ∙ is))
  where
    by : AreNoted old dues → (found : Option Kept) → kept_at old root id ≡ found →
        option_map (λ (k : Kept). k.value) found ≡ Some value →
        (number : ℕ) × (number ≤ kept.value) × Contains dues (due (spot root id) number)
    by noted_now None at some = absurd (none_or_some value some)
    by noted_now (Some one) at some =
        let (number, enough, there) = noted_now root id one at in
        let above = raises one at in
        (number, omega (arith, enough, above), there)

-- ---- how many are pending

pub pending_later : (now : ℕ) (old new : List (Due Spot)) (one : Spot) (value : ℕ) →
    now < value → Notes old new (due one value) → pending now new ≡ pending now old
pending_later now old new one value later moved =
    sum_by_pushed (λ (each : Due Spot). cond (nat_lt now each.number) 0 1) (due one value)
    old new moved
    ∙ ap (λ (b : Bool). cond b 0 1 + pending now old) (lt-ltb now value later)
    ∙ omega arith

pub pending_taken : (now : ℕ) (old new : List (Due Spot)) (next : Due Spot) →
    TakesNext now old new next → pending now new < pending now old
pending_taken now old new next takes =
    omega (
      arith,
      sum_by_popped (λ (each : Due Spot). cond (nat_lt now each.number) 0 1) next
          old new takes.taken,
      by (nat_lt now next.number) refl,
    )
  where
    by : (b : Bool) → nat_lt now next.number ≡ b →
        ◌≡◌ {A = ℕ} (cond (nat_lt now next.number) 0 1) 1
    by true below = absurd (omega (arith, ltb-true now next.number below, takes.reached))
    by false past = ap (λ (b : Bool). cond b 0 1) past

-- ---- what a clock leaves

-- what is above the clock stays
pub alive_stays : (now : ℕ) (found : Option Kept) (kept : Kept) → found ≡ Some kept →
    now < kept.value → alive now found ≡ found
alive_stays now found kept is above =
    ap (alive now) is ∙ ap (λ b. cond b (Some kept) None) (lt-ltb now kept.value above) ∙ sym is

-- and what isn't goes
pub alive_gone : (now : ℕ) (found : Option Kept) (kept : Kept) → found ≡ Some kept →
    kept.value ≤ now → alive now found ≡ None
alive_gone now found kept is below = ap (alive now) is ∙ by (nat_lt now kept.value) refl
  where
    by : (b : Bool) → nat_lt now kept.value ≡ b → cond b (Some kept) None ≡ None
    by true above = absurd (omega (arith, ltb-true now kept.value above, below))
    by false past = refl

-- nothing changes where the same is put
pub puts_itself : (places : List Placed) (root : ℕ) (id : NodeId) (found : Option Kept) →
    found ≡ kept_at places root id → PutsAt places places root id found
puts_itself places root id found is each at = by_test (same_spot root id each at)
    (λ same. let (roots, ids) = same_spot_is root id each at same in
    (λ i. kept_at places (sym roots i) (sym ids i)) ∙ sym is
    ∙ sym (ap (λ b. cond b found (kept_at places each at)) same))
    (λ apart. sym (ap (λ b. cond b found (kept_at places each at)) apart))
