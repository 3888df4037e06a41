-- Going through the events from the empty set leaves the answers.
use Rattle.std.proofs.Common.{◌≡◌, ℕ, Bool, true, false, not, ◌==◌, ◌&&◌, ◌||◌, List, [], ◌∷◌, ◌++◌, map, refl, sym, ap, subst, ◌∙◌, arith}
use Rattle.std.specs.Prelude.{◌↔◌, IsTrue, Contains, All, if◌then◌else◌}
use Rattle.std.specs.List.{list_any, flat_map}
use Rattle.std.proofs.lemmas.Bool.{eq-eqb, false≢true}
use Rattle.std.proofs.lemmas.List.{append_assoc, append-nil}
use Rattle.std.proofs.lemmas.Map.Views.{any-filter_same}
use Rattle.rpq_base.specs.Same.{same_pair}
use Rattle.rpq_base.specs.Laws.{SameIsEqual}
use Rattle.rpq_base.specs.declared.data.Edge.{Edge}
use Rattle.rpq_base.specs.declared.data.Entry.{Entry}
use Rattle.rpq_base.specs.declared.data.Pair.{Pair}
use Rattle.rpq_base.specs.declared.data.Event.{Event}
use Rattle.rpq_model.specs.Window.{live_from}
use Rattle.rpq_model.specs.Answers.{PathQuery, IsAnswer}
use Rattle.rpq_model.specs.Events.{event, without, changes, AreEvents, AreEachFrom, AreEventsOf, IsHeld, held_from}
use Rattle.rpq_base.proofs.Equality.{same_tests}
use Rattle.rpq_model.proofs.Pairs.{has, has_members, any_same}

-- a pair is kept where it is among the first and not among the second
any_without : SameIsEqual → (pairs others : List Pair) (pair : Pair) →
    list_any (λ (each : Pair). same_pair each pair) (without pairs others) ≡ (not (has others pair) && has pairs pair)
any_without same pairs others pair =
    any-filter_same (λ (each : Pair). same_pair each pair) (λ (each : Pair). not (has others each)) (not (has others pair))
    (λ each e. ap (λ (one : Pair). not (has others one)) ((same.pairs each pair).0 e)) pairs
    ∙ ap (λ (found : Bool). not (has others pair) && found) (any_same same pairs pair)

-- events one after another
pub held_after : (events others : List Event) (before : Bool) (query : ℕ) (pair : Pair) →
    held_from before query pair (events ++ others) ≡ held_from (held_from before query pair events) query pair others
held_after [] others before query pair = refl
held_after (first ∷ events) others before query pair =
    held_after events others (if first.query == query && same_pair first.pair pair then first.added else before) query pair

-- two choices of one value are one choice
either : (here there added before : Bool) → (if there then added else (if true && here then added else before)) ≡ (if here || there then added else before)
either true true added before = refl
either true false added before = refl
either false true added before = refl
either false false added before = refl

-- after gains, or after losses, a pair that has one is held, or not, and another pair is as before
held_alike : (pairs : List Pair) (before added : Bool) (query : ℕ) (pair : Pair) →
    held_from before query pair (map (event query added) pairs) ≡ (if list_any (λ (each : Pair). same_pair each pair) pairs then added else before)
held_alike [] before added query pair = refl
held_alike (first ∷ pairs) before added query pair =
    held_alike pairs (if query == query && same_pair first pair then added else before) added query pair
    ∙ (ap (λ (this : Bool). if list_any (λ (each : Pair). same_pair each pair) pairs then added else (if this && same_pair first pair then added else before))
    (eq-eqb query query refl)
    ∙ either (same_pair first pair) (list_any (λ (each : Pair). same_pair each pair) pairs) added before)

-- losses and then gains leave what is new
lost_then_gained : (old new : Bool) → (if not old && new then true else (if not new && old then false else old)) ≡ new
lost_then_gained true true = refl
lost_then_gained true false = refl
lost_then_gained false true = refl
lost_then_gained false false = refl

-- after the changes, a pair is held where it is among the new ones, if it was held where it was among the old ones
pub held_changes : SameIsEqual → (old new : List Pair) (before : Bool) (query : ℕ) (pair : Pair) →
    before ≡ has old pair → held_from before query pair (changes query old new) ≡ has new pair
held_changes same old new before query pair is_before =
    held_after (map (event query false) (without old new)) (map (event query true) (without new old)) before query pair
    ∙ (held_alike (without new old) (held_from before query pair (map (event query false) (without old new))) true query pair
    ∙ (ap (λ (held : Bool). if list_any (λ (each : Pair). same_pair each pair) (without new old) then true else held)
    (held_alike (without old new) before false query pair)
    ∙ rw (any_without same new old pair, any_without same old new pair, is_before) (lost_then_gained (has old pair) (has new pair))))

-- no pair is an answer over the empty history
no_answer : (path : List Edge) → All (Contains {X = Edge} []) path → path ≡ []
no_answer [] members = refl
no_answer (edge ∷ path) members = absurd (omega (arith, (members 0 edge (omega arith)).1))

pub none_at_first : (query : PathQuery) (pair : Pair) → IsAnswer query [] pair → ⊥
unfolding live_from
none_at_first query pair answer = answer.1.leads.some (no_answer answer.0 answer.1.leads.members)

-- a query's events from one history to another carry what is held from the answers over the one to those over the other
pub held_step : SameIsEqual → (query : PathQuery) (number : ℕ) (before after : List Entry) (events : List Event) (held : Bool) (pair : Pair) →
    AreEvents query number before after events →
    IsTrue held ↔ IsAnswer query before pair → IsTrue (held_from held number pair events) ↔ IsAnswer query after pair
held_step same query number before after events held pair are holds =
    let old = are.0 in
    let new = are.1 in
    let was : held ≡ has old pair = same_tests held (has old pair) (
      (λ e. (has_members same old pair).1 ((are.2.exact pair).1 (holds.0 e))),
      (λ e. holds.1 ((are.2.exact pair).0 ((has_members same old pair).0 e))),
    ) in
    let is : held_from held number pair events ≡ has new pair = ap (held_from held number pair) are.4 ∙ held_changes same old new held number pair was in (
      (λ e. (are.3.exact pair).0 ((has_members same new pair).0 (sym is ∙ e))),
      (λ answer. is ∙ (has_members same new pair).1 ((are.3.exact pair).1 answer)),
    )

-- going through the events of the entries that follow a history leaves the answers, if the answers there were held
held_following : (entries before : List Entry) (query : PathQuery) (number : ℕ) (pair : Pair) (held : Bool) (events : List (List Event)) →
    SameIsEqual →
    AreEachFrom (AreEvents query number) before entries events →
    IsTrue held ↔ IsAnswer query before pair →
    IsTrue (held_from held number pair (flat_map (λ block. block) events)) ↔ IsAnswer query (before ++ entries) pair
held_following [] before query number pair held [] same events_are holds =
    subst (λ (history : List Entry). IsTrue held ↔ IsAnswer query history pair) (sym (append-nil before)) holds
held_following [] before query number pair held (block ∷ events) same events_are holds = absurd events_are
held_following (entry ∷ later) before query number pair held [] same events_are holds = absurd events_are
held_following (entry ∷ later) before query number pair held (block ∷ events) same events_are holds =
    let holds_now = held_step same query number before (before ++ entry ∷ []) block held pair events_are.0 holds in
    let further = held_following later (before ++ entry ∷ []) query number pair (held_from held number pair block) events same events_are.1 holds_now in
    rw (held_after block (flat_map (λ block. block) events) held number pair, ← append_assoc before (entry ∷ []) later) further

-- going through the events of all entries of a history leaves its answers
pub held_is_answers : SameIsEqual → (query : PathQuery) (number : ℕ) (history : List Entry) (events : List (List Event)) →
    AreEventsOf query number history events → (pair : Pair) → IsHeld number (flat_map (λ list. list) events) pair ↔ IsAnswer query history pair
held_is_answers same query number history events events_are pair =
    held_following history [] query number pair false events same events_are (
      (λ e. absurd (false≢true e)),
      (λ answer. absurd (none_at_first query pair answer)),
    )
