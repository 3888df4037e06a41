-- The edges of the window are those of the entries that are live by their places.
use Rattle.std.proofs.Common.{◌≡◌, ℕ, zero, suc, ◌+◌, ◌<◌, ◌≤◌, Bool, true, false, not, ◌&&◌, List, [], ◌∷◌, length, Option, Some, None, refl, sym, ap, subst}
use Rattle.std.proofs.Common.{◌∙◌, ◌⊎◌, inl, inr, ⊎_elim, arith}
use Rattle.std.specs.Prelude.{◌↔◌, All, AllPairs, Contains, slice_get, slice_index_or, if◌then◌else◌}
use Rattle.std.specs.List.{cons_option}
use Rattle.std.proofs.lemmas.Bool.{false≢true, both_ways, and_parts, or_cases, not-true, false_from_ne_true}
use Rattle.std.proofs.lemmas.List.Elements.{All-cons, All-nil, All-weaker}
use Rattle.std.proofs.lemmas.List.Kept.{AllPairs-cons}
use Rattle.std.proofs.lemmas.Map.Keys.{any_passes_from_place}
use Rattle.rpq_base.specs.Laws.{SameIsEqual}
use Rattle.rpq_base.specs.OwnEnds.{own_end}
use Rattle.rpq_base.specs.declared.data.Edge.{Edge}
use Rattle.rpq_base.specs.declared.data.Act.{Act}
use Rattle.rpq_base.specs.declared.data.Act.TheVariants.{Insert, Delete, Tick}
use Rattle.rpq_base.specs.declared.data.Entry.{Entry}
use Rattle.rpq_model.specs.Window.{WindowValue, Placed, Inserts, is_seen, inserted_edge, deletes, is_deleted, is_live_act, is_live, live_from, edges_at}
use Rattle.rpq_model.specs.WindowLaws.{is_tuple_seen, IsLiveAt, LiveByPlaces, LiveInOrder, EdgesByPlaces, LiveBelowDeadline, LaterSeesLess}
use Rattle.rpq_model.proofs.LiveEdges.{at_place, first_live}
use Rattle.rpq_model.proofs.OwnDeadlines.{seen_below_deadline, seen_before}
use Rattle.rpq_base.proofs.Members.{cons_members}

-- ---- deletes

-- an act that deletes an edge is its delete
deletes_it : SameIsEqual → (act : Act) (edge : Edge) → deletes edge act ≡ true → act ≡ Delete edge
deletes_it same (Insert other until) edge e = absurd (false≢true e)
deletes_it same (Delete other) edge e = ap Delete (sym ((same.edges edge other).0 e))
deletes_it same Tick edge e = absurd (false≢true e)

-- an edge that is deleted has its delete at some place
deleted_place : (later : List Entry) (edge : Edge) → SameIsEqual → is_deleted later edge ≡ true →
    (place : ℕ) × (other : Entry) × (slice_get later place ≡ Some other) × (other.tuple.act ≡ Delete edge)
deleted_place [] edge same e = absurd (false≢true e)
deleted_place (entry ∷ later) edge same e =
    ⊎_elim
    (λ here. (0, entry, refl, deletes_it same entry.tuple.act edge here))
    (λ there. let further = deleted_place later edge same there in (suc further.0, further.1, further.2, further.3))
    (or_cases (deletes edge entry.tuple.act) (is_deleted later edge) e)

-- an edge that is not deleted has its delete at no place
no_delete : (later : List Entry) (edge : Edge) → SameIsEqual → is_deleted later edge ≡ false →
    (place : ℕ) (other : Entry) → slice_get later place ≡ Some other → other.tuple.act ≡ Delete edge → ⊥
no_delete later edge same kept place other there deletes_here =
    let found = any_passes_from_place (λ (entry : Entry). deletes edge entry.tuple.act) later place other there
    (ap (deletes edge) deletes_here ∙ (same.edges edge edge).1 refl) in
    both_ways (is_deleted later edge) kept found

-- ---- the first entry

-- what is chosen is there
chosen : (live : Bool) (other edge : Edge) → (if live then Some other else None) ≡ Some edge → (live ≡ true) × (other ≡ edge)
chosen true other edge e = (refl, cc)
chosen false other edge e = cc

-- an act that is live inserts an edge that is seen and stays
pub live_act : (act : Act) (window : WindowValue) (now time : ℕ) (later : List Entry) (edge : Edge) →
    (if is_live_act window now time act later then inserted_edge act else None) ≡ Some edge →
    Inserts act edge × (is_seen window now time (own_end act) ≡ true) × (is_deleted later edge ≡ false)
live_act (Insert other until) window now time later edge e =
    let seen = is_seen window now time until in
    let here = chosen (seen && not (is_deleted later other)) other edge e in
    let parts = and_parts seen (not (is_deleted later other)) here.0 in
    (ap (λ (one : Edge). Some one) here.1, parts.0, ap (is_deleted later) (sym here.1) ∙ not-true (is_deleted later other) parts.1)
live_act (Delete other) window now time later edge e = cc
live_act Tick window now time later edge e = cc

-- an act that inserts an edge that is seen and stays is live
pub act_is_live : (act : Act) (window : WindowValue) (now time : ℕ) (later : List Entry) (edge : Edge) →
    Inserts act edge → is_seen window now time (own_end act) ≡ true → is_deleted later edge ≡ false →
    (if is_live_act window now time act later then inserted_edge act else None) ≡ Some edge
act_is_live (Insert other until) window now time later edge inserts seen stays =
    let same_edge : other ≡ edge = cc in
    let kept = ap (is_deleted later) same_edge ∙ stays in
    rw (seen, kept) inserts
act_is_live (Delete other) window now time later edge inserts seen stays = cc
act_is_live Tick window now time later edge inserts seen stays = cc

-- ---- members, entry by entry

first_or_later : (place : ℕ) (first : Edge) (edges : List Edge) (edge : Edge) →
    place < length (first ∷ edges) → slice_index_or (first ∷ edges) place edge ≡ edge → (first ≡ edge) ⊎ Contains edges edge
first_or_later zero first edges edge below is = inl is
first_or_later (suc place) first edges edge below is = inr (place, omega arith, is)

-- a member of a list that may have one more element is that element or a member without it
pub found_or_later : (found : Option Edge) (edges : List Edge) (edge : Edge) → Contains (cons_option found edges) edge →
    (found ≡ Some edge) ⊎ Contains edges edge
found_or_later None edges edge member = inr member
found_or_later (Some first) edges edge member =
    ⊎_elim (λ here. inl (ap (λ (one : Edge). Some one) here)) (λ later. inr later) (first_or_later member.0 first edges edge member.1 member.2)

-- and the other way round
pub from_found : (found : Option Edge) (edges : List Edge) (edge : Edge) → found ≡ Some edge → Contains (cons_option found edges) edge
from_found found edges edge here = rw here (0, omega arith, refl)

pub from_later : (found : Option Edge) (edges : List Edge) (edge : Edge) → Contains edges edge → Contains (cons_option found edges) edge
from_later None edges edge member = member
from_later (Some first) edges edge member = (suc member.0, omega (arith, member.1), member.2)

-- ---- by induction over the history

-- no later delete of the edge of the first entry
stays_first : (place : ℕ) (entry : Entry) (later : List Entry) (edge : Edge) (other : Entry) → SameIsEqual → is_deleted later edge ≡ false →
    0 < place → slice_get (entry ∷ later) place ≡ Some other → other.tuple.act ≡ Delete edge → ⊥
stays_first zero entry later edge other same kept after there = absurd (omega arith)
stays_first (suc place) entry later edge other same kept after there = no_delete later edge same kept place other there

-- no later delete of the edge of another
stays_later : (place : ℕ) (entry : Entry) (later : List Entry) (edge : Edge) (other : Entry) (live : ℕ) →
    ((at : ℕ) (each : Entry) → live < at → slice_get later at ≡ Some each → each.tuple.act ≡ Delete edge → ⊥) →
    suc live < place → slice_get (entry ∷ later) place ≡ Some other → other.tuple.act ≡ Delete edge → ⊥
stays_later zero entry later edge other live stays after there = absurd (omega arith)
stays_later (suc place) entry later edge other live stays after there = stays place other (omega arith) there

-- one entry more before a live one
one_before : (place : ℕ) (entry live : Entry) (later : List Entry) (window : WindowValue) (now : ℕ) (edge : Edge) →
    IsLiveAt window now later edge place live → IsLiveAt window now (entry ∷ later) edge (suc place) live
one_before place entry live later window now edge is = record {
  undeleted = record {
    there = is.undeleted.there;
    inserts = is.undeleted.inserts;
    stays = λ at other after there. stays_later at entry later edge other place is.undeleted.stays after there;
  };
  seen = is.seen;
}

-- and without the first entry
after_first : (place : ℕ) (entry live : Entry) (later : List Entry) (window : WindowValue) (now : ℕ) (edge : Edge) →
    IsLiveAt window now (entry ∷ later) edge (suc place) live → IsLiveAt window now later edge place live
after_first place entry live later window now edge is = record {
  undeleted = record {
    there = is.undeleted.there;
    inserts = is.undeleted.inserts;
    stays = λ at other after there. is.undeleted.stays (suc at) other (omega arith) there;
  };
  seen = is.seen;
}

-- an edge of a live entry is live at some place
pub to_place : (history : List Entry) (window : WindowValue) (now : ℕ) (edge : Edge) → SameIsEqual →
    Contains (edges_at window now history) edge → (place : ℕ) × (entry : Entry) × IsLiveAt window now history edge place entry
unfolding live_from
to_place [] window now edge same member = absurd (omega (arith, member.1))
to_place (entry ∷ later) window now edge same member =
    let rest = edges_at window now later in
    let found = if is_live window now entry later then inserted_edge entry.tuple.act else None in
    ⊎_elim
    (λ here.
    let parts = live_act entry.tuple.act window now entry.tuple.time later edge here in (
      0,
      entry,
      record {
        undeleted = record {
          there = refl;
          inserts = parts.0;
          stays = λ place other after there. stays_first place entry later edge other same parts.2 after there;
        };
        seen = parts.1;
      },
    ))
    (λ there.
    let further = to_place later window now edge same there in
    (suc further.0, further.1, one_before further.0 entry further.1 later window now edge further.2))
    (found_or_later found rest edge (subst (λ (edges : List Edge). Contains edges edge) (first_live window now entry later) member))

-- an edge that is live at a place is one of a live entry
pub from_place : (history : List Entry) (place : ℕ) (live : Entry) (window : WindowValue) (now : ℕ) (edge : Edge) → SameIsEqual →
    IsLiveAt window now history edge place live → Contains (edges_at window now history) edge
from_place [] place live window now edge same is = let there = is.undeleted.there in cc
from_place (entry ∷ later) zero live window now edge same is =
    let same_entry : entry ≡ live = let there = is.undeleted.there in cc in
    let inserts = ap (λ (each : Entry). inserted_edge each.tuple.act) same_entry ∙ is.undeleted.inserts in
    let seen = ap (λ (each : Entry). is_tuple_seen window now each.tuple) same_entry ∙ is.seen in
    let kept = false_from_ne_true (is_deleted later edge) (λ e.
    let found = deleted_place later edge same e in
    is.undeleted.stays (suc found.0) found.1 (omega arith) found.2 found.3) in
    let here = act_is_live entry.tuple.act window now entry.tuple.time later edge inserts seen kept in
    let found = if is_live window now entry later then inserted_edge entry.tuple.act else None in
    subst (λ (edges : List Edge). Contains edges edge) (sym (first_live window now entry later))
    (from_found found (edges_at window now later) edge here)
from_place (entry ∷ later) (suc place) live window now edge same is =
    let live_later : IsLiveAt window now later edge place live = after_first place entry live later window now edge is in
    let found = if is_live window now entry later then inserted_edge entry.tuple.act else None in
    subst (λ (edges : List Edge). Contains edges edge) (sym (first_live window now entry later))
    (from_later found (edges_at window now later) edge (from_place later place live window now edge same live_later))

-- the live edges are those with an entry that is live at its place
pub edges_by_places : SameIsEqual → EdgesByPlaces
edges_by_places same window now entries edge = (
  to_place entries window now edge same,
  (λ live. from_place entries live.0 live.1 window now edge same live.2),
)

-- ---- the live entries themselves

-- what a list with a first element that may be left out has
choice_members : (test : Bool) (first : Placed) (rest : List Placed) (live : Placed) →
    Contains (if test then first ∷ rest else rest) live ↔ (((test ≡ true) × (first ≡ live)) ⊎ Contains rest live)
choice_members true first rest live = (
  (λ member. ⊎_elim (λ here. inl (refl, here)) (λ later. inr later) ((cons_members first rest live).0 member)),
  (λ either. (cons_members first rest live).1 (⊎_elim (λ here. inl here.1) (λ later. inr later) either)),
)
choice_members false first rest live = (
  (λ member. inr member),
  (λ either. ⊎_elim (λ here. absurd (false≢true here.0)) (λ later. later) either),
)

-- an act that is live inserts an edge
live_inserts : (act : Act) (window : WindowValue) (now time : ℕ) (later : List Entry) → is_live_act window now time act later ≡ true →
    (edge : Edge) × Inserts act edge × (is_seen window now time (own_end act) ≡ true) × (is_deleted later edge ≡ false)
live_inserts (Insert edge until) window now time later e =
    let parts = and_parts (is_seen window now time until) (not (is_deleted later edge)) e in
    (edge, refl, parts.0, not-true (is_deleted later edge) parts.1)
live_inserts (Delete edge) window now time later e = absurd (false≢true e)
live_inserts Tick window now time later e = absurd (false≢true e)

inserts_live : (act : Act) (window : WindowValue) (now time : ℕ) (later : List Entry) (edge : Edge) → Inserts act edge →
    is_seen window now time (own_end act) ≡ true → is_deleted later edge ≡ false → is_live_act window now time act later ≡ true
inserts_live (Insert other until) window now time later edge inserts seen stays =
    let same_edge : other ≡ edge = cc in
    let kept = ap (is_deleted later) same_edge ∙ stays in
    rw (seen, kept) refl
inserts_live (Delete other) window now time later edge inserts seen stays = cc
inserts_live Tick window now time later edge inserts seen stays = cc

-- a live entry, by its distance from the first
pub to_live : (entries : List Entry) (window : WindowValue) (now first : ℕ) (live : Placed) → SameIsEqual → Contains (live_from window now first entries) live →
    (distance : ℕ) × (edge : Edge) × (live.place ≡ first + distance) × IsLiveAt window now entries edge distance live.entry
unfolding live_from
to_live [] window now first live same member = absurd (omega (arith, member.1))
to_live (entry ∷ later) window now first live same member =
    ⊎_elim
    (λ here.
    let parts = live_inserts entry.tuple.act window now entry.tuple.time later here.0 in
    let is : entry ≡ live.entry = ap (λ (each : Placed). each.entry) here.1 in (
      0,
      parts.0,
      sym (ap (λ (each : Placed). each.place) here.1) ∙ omega arith,
      subst (λ (each : Entry). IsLiveAt window now (entry ∷ later) parts.0 0 each) is (record {
        undeleted = record {
          there = refl;
          inserts = parts.1;
          stays = λ place other after there. stays_first place entry later parts.0 other same parts.3 after there;
        };
        seen = parts.2;
      }),
    ))
    (λ there.
    let further = to_live later window now (suc first) live same there in
    (suc further.0, further.1, further.2 ∙ omega arith, one_before further.0 entry live.entry later window now further.1 further.3))
    ((choice_members (is_live window now entry later) (at_place first entry) (live_from window now (suc first) later) live).0 member)

-- and the other way round
pub from_live : (entries : List Entry) (distance : ℕ) (window : WindowValue) (now first : ℕ) (edge : Edge) (live : Placed) → SameIsEqual →
    live.place ≡ first + distance → IsLiveAt window now entries edge distance live.entry → Contains (live_from window now first entries) live
unfolding live_from
from_live [] distance window now first edge live same at is = let there = is.undeleted.there in cc
from_live (entry ∷ later) zero window now first edge live same at is =
    let same_entry : entry ≡ live.entry = let there = is.undeleted.there in cc in
    let inserts = ap (λ (each : Entry). inserted_edge each.tuple.act) same_entry ∙ is.undeleted.inserts in
    let seen = ap (λ (each : Entry). is_tuple_seen window now each.tuple) same_entry ∙ is.seen in
    let kept = false_from_ne_true (is_deleted later edge) (λ e.
    let found = deleted_place later edge same e in
    is.undeleted.stays (suc found.0) found.1 (omega arith) found.2 found.3) in
    let place : first ≡ live.place = omega (arith, at) in
    let here : at_place first entry ≡ live = λ i. record { place = place i; entry = same_entry i } in
    (choice_members (is_live window now entry later) (at_place first entry) (live_from window now (suc first) later) live).1
    (inl (inserts_live entry.tuple.act window now entry.tuple.time later edge inserts seen kept, here))
from_live (entry ∷ later) (suc distance) window now first edge live same at is =
    (choice_members (is_live window now entry later) (at_place first entry) (live_from window now (suc first) later) live).1
    (inr (from_live later distance window now (suc first) edge live same (omega (arith, at)) (after_first distance entry live.entry later window now edge is)))

-- the live entries are those that are live at their places
pub live_by_places : SameIsEqual → LiveByPlaces
live_by_places same window now entries live = (
  (λ member.
      let found = to_live entries window now 0 live same member in
      let place : found.0 ≡ live.place = omega (arith, found.2) in
      (found.1, subst (λ (at : ℕ). IsLiveAt window now entries found.1 at live.entry) place found.3)),
  (λ is. from_live entries live.place window now 0 is.0 live same (omega arith) is.1),
)

-- an insert that no later entry deletes is live below its deadline
pub live_below_deadline : SameIsEqual → LiveBelowDeadline
live_below_deadline same window now entries edge live deadline some undeleted is =
    let below = seen_below_deadline window now live.entry.tuple deadline some is in (
      (λ member. below.0 ((live_by_places same window now entries live).0 member).1.seen),
      (λ less. (live_by_places same window now entries live).1 (edge, record { undeleted = undeleted; seen = below.1 less })),
    )

-- a later clock sees less
pub later_sees_less : SameIsEqual → LaterSeesLess
later_sees_less same window now later entries live some le member =
    let found = (live_by_places same window later entries live).0 member in
    (live_by_places same window now entries live).1
    (found.0, record { undeleted = found.1.undeleted; seen = seen_before window now later live.entry.tuple some le found.1.seen })

pub edges_before : SameIsEqual → (entries : List Entry) (window : WindowValue) (now later : ℕ) (edge : Edge) → 0 < window.slide → now ≤ later →
    Contains (edges_at window later entries) edge → Contains (edges_at window now entries) edge
edges_before same entries window now later edge some le member =
    let found = to_place entries window later edge same member in
    from_place entries found.0 found.1 window now edge same
    (record { undeleted = found.2.undeleted; seen = seen_before window now later found.1.tuple some le found.2.seen })

-- ---- their order

-- each live entry is at a place from the first on
from_first_on : (entries : List Entry) (window : WindowValue) (now first : ℕ) → All (λ live. first ≤ live.place) (live_from window now first entries)
unfolding live_from
from_first_on [] window now first = All-nil (λ live. first ≤ live.place)
from_first_on (entry ∷ later) window now first =
    let rest : All (λ live. first ≤ live.place) (live_from window now (suc first) later) =
    All-weaker (λ live. suc first ≤ live.place) (λ live. first ≤ live.place) (λ live le. omega (arith, le)) (live_from window now (suc first) later)
    (from_first_on later window now (suc first)) in
    first_chosen (is_live window now entry later) first entry (live_from window now (suc first) later) rest
  where
    first_chosen : (test : Bool) (first : ℕ) (entry : Entry) (rest : List Placed) → All (λ live. first ≤ live.place) rest →
        All (λ live. first ≤ live.place) (if test then at_place first entry ∷ rest else rest)
    first_chosen true first entry rest all = All-cons (λ live. first ≤ live.place) (at_place first entry) rest (omega arith) all
    first_chosen false first entry rest all = all

in_order_from : (entries : List Entry) (window : WindowValue) (now first : ℕ) →
    AllPairs (λ earlier later. earlier.place < later.place) (live_from window now first entries)
unfolding live_from
in_order_from [] window now first = λ i j d below within. absurd (omega arith)
in_order_from (entry ∷ later) window now first =
    ordered (is_live window now entry later) first entry (live_from window now (suc first) later) (from_first_on later window now (suc first))
    (in_order_from later window now (suc first))
  where
    ordered : (test : Bool) (first : ℕ) (entry : Entry) (rest : List Placed) → All (λ live. suc first ≤ live.place) rest →
        AllPairs (λ earlier later. earlier.place < later.place) rest → AllPairs (λ earlier later. earlier.place < later.place)
        (if test then at_place first entry ∷ rest else rest)
    ordered true first entry rest after pairs =
        AllPairs-cons (λ earlier later. earlier.place < later.place) (at_place first entry) rest
        (All-weaker (λ live. suc first ≤ live.place) (λ live. first < live.place) (λ live le. omega (arith, le)) rest after) pairs
    ordered false first entry rest after pairs = pairs

pub live_in_order : LiveInOrder
live_in_order window now entries = in_order_from entries window now 0
