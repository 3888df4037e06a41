-- What is saved of a history and more is saved of what was saved of it and more.
use Rattle.std.proofs.Common.{◌≡◌, ℕ, ◌<◌, ◌≤◌, max, Bool, true, false, not, ◌&&◌, ◌||◌, List, [], ◌∷◌, ◌++◌, length, map, fold}
use Rattle.std.proofs.Common.{refl, sym, ap, ◌∙◌, arith, append_assoc, length-append}
use Rattle.std.specs.Prelude.{All, if◌then◌else◌}
use Rattle.std.specs.List.{list_any}
use Rattle.std.proofs.lemmas.Bool.{false≢true, and_parts, or_parts, not-true, false_from_ne_true}
use Rattle.std.proofs.lemmas.List.{map-append, length-map}
use Rattle.std.proofs.lemmas.List.Sums.{fold-append}
use Rattle.std.proofs.lemmas.List.Folds.{list_any-append}
use Rattle.std.proofs.lemmas.List.Elements.{All-contains}
use Rattle.rpq_base.specs.Laws.{SameIsEqual}
use Rattle.rpq_base.specs.TupleValue.{TupleValue}
use Rattle.rpq_base.specs.declared.data.Edge.{Edge}
use Rattle.rpq_base.specs.declared.data.Act.{Act}
use Rattle.rpq_base.specs.declared.data.Act.TheVariants.{Insert, Delete, Tick}
use Rattle.rpq_base.specs.declared.data.Entry.{Entry}
use Rattle.rpq_model.specs.Window.{WindowValue, Inserts, clock, is_seen, deletes, is_deleted, is_live_act, is_live}
use Rattle.rpq_model.specs.Query.{Query}
use Rattle.rpq_model.proofs.OwnDeadlines.{both_true, own_seen_before}
use Rattle.rpq_model.proofs.Places.{live_by_places}
use Rattle.saved_window.specs.Alike.{SavedOfMore}
use Rattle.saved_window.specs.Saved.{is_kept, kept_tuples, clock_tick, has_time, with_clock, saved, first_stream}
use Rattle.saved_window.proofs.Clocks.{clock_saved}
use Rattle.saved_window.proofs.Kept.{passes_any, any_passes}

abbrev Slides : List Query → Type 0
Slides queries = All (λ query. 0 < query.window.slide) queries

-- ---- live acts

-- a live act deletes nothing
live_deletes_none : (act : Act) (window : WindowValue) (now time : ℕ) (later : List Entry) (edge : Edge) →
    is_live_act window now time act later ≡ true → deletes edge act ≡ false
live_deletes_none (Insert other until) window now time later edge live = refl
live_deletes_none (Delete other) window now time later edge live = absurd (false≢true live)
live_deletes_none Tick window now time later edge live = refl

-- and no later entry deletes its edge
live_undeleted : (act : Act) (window : WindowValue) (now time : ℕ) (later : List Entry) (edge : Edge) →
    is_live_act window now time act later ≡ true → Inserts act edge → is_deleted later edge ≡ false
live_undeleted (Insert other until) window now time later edge live inserts =
    let same : other ≡ edge = cc in
    ap (is_deleted later) (sym same)
    ∙ not-true (is_deleted later other) (and_parts (is_seen window now time until) (not (is_deleted later other)) live).1
live_undeleted (Delete other) window now time later edge live inserts = cc
live_undeleted Tick window now time later edge live inserts = cc

-- an act is live before these entries as before others, if they delete its edge alike
live_alike : (act : Act) (window : WindowValue) (now time : ℕ) (first second : List Entry) →
    ((edge : Edge) → Inserts act edge → is_deleted first edge ≡ is_deleted second edge) →
    is_live_act window now time act first ≡ is_live_act window now time act second
live_alike (Insert edge until) window now time first second alike =
    ap (λ (deleted : Bool). is_seen window now time until && not deleted) (alike edge refl)
live_alike (Delete edge) window now time first second alike = refl
live_alike Tick window now time first second alike = refl

-- whether an edge is deleted by some entries and others
deleted_in_both : (rest later : List Entry) (edge : Edge) → is_deleted (rest ++ later) edge ≡ (is_deleted rest edge || is_deleted later edge)
deleted_in_both rest later edge = list_any-append (λ (entry : Entry). deletes edge entry.tuple.act) rest later

-- an act that is live at a later clock, before more entries, was live
live_before : (act : Act) (window : WindowValue) (now after time : ℕ) (rest later : List Entry) → 0 < window.slide → now ≤ after →
    is_live_act window after time act (rest ++ later) ≡ true → is_live_act window now time act rest ≡ true
live_before (Insert edge until) window now after time rest later slides le live =
    let parts = and_parts (is_seen window after time until) (not (is_deleted (rest ++ later) edge)) live in
    let stays = not-true (is_deleted (rest ++ later) edge) parts.1 in
    let kept = (or_parts (is_deleted rest edge) (is_deleted later edge) (sym (deleted_in_both rest later edge) ∙ stays)).0 in
    both_true (is_seen window now time until) (not (is_deleted rest edge)) (own_seen_before window now after time until slides le parts.0) (ap not kept)
live_before (Delete edge) window now after time rest later slides le live = absurd (false≢true live)
live_before Tick window now after time rest later slides le live = absurd (false≢true live)

-- ---- kept tuples

-- none of the kept tuples deletes an edge
chosen_deletes_none : (test : Bool) (tuple : TupleValue) (kept : List TupleValue) (edge : Edge) → (test ≡ true → deletes edge tuple.act ≡ false) →
    is_deleted (first_stream kept) edge ≡ false → is_deleted (first_stream (if test then tuple ∷ kept else kept)) edge ≡ false
chosen_deletes_none true tuple kept edge first rest = rw (first refl) rest
chosen_deletes_none false tuple kept edge first rest = rest

kept_delete_none : (entries : List Entry) (queries : List Query) (now : ℕ) (edge : Edge) →
    is_deleted (first_stream (kept_tuples queries now entries)) edge ≡ false
unfolding kept_tuples
kept_delete_none [] queries now edge = refl
kept_delete_none (entry ∷ later) queries now edge =
    chosen_deletes_none (is_kept queries now entry later) entry.tuple (kept_tuples queries now later) edge
    (λ kept.
    let found = passes_any (λ (query : Query). is_live query.window now entry later) queries kept in
    live_deletes_none entry.tuple.act found.0.window now entry.tuple.time later edge found.2)
    (kept_delete_none later queries now edge)

-- two tests with the same answers
any_alike : (queries : List Query) (first second : Query → Bool) → ((query : Query) → first query ≡ second query) →
    list_any first queries ≡ list_any second queries
any_alike [] first second alike = refl
any_alike (query ∷ queries) first second alike = rw (alike query, any_alike queries first second alike) refl

-- a kept entry is kept at a later clock before what is kept as before what stood there
kept_alike : (queries : List Query) (now after : ℕ) (entry : Entry) (rest later behind : List Entry) → is_kept queries now entry rest ≡ true →
    ((edge : Edge) → is_deleted behind edge ≡ is_deleted later edge) →
    is_kept queries after entry (first_stream (kept_tuples queries now rest) ++ behind) ≡ is_kept queries after entry (rest ++ later)
kept_alike queries now after entry rest later behind kept same =
    any_alike queries (λ (query : Query). is_live query.window after entry (others ++ behind)) (λ (query : Query). is_live query.window after entry (rest ++ later))
    (λ query. live_alike entry.tuple.act query.window after entry.tuple.time (others ++ behind) (rest ++ later) (λ edge inserts.
    let found = passes_any (λ (each : Query). is_live each.window now entry rest) queries kept in
    let undeleted = live_undeleted entry.tuple.act found.0.window now entry.tuple.time rest edge found.2 inserts in
    deleted_in_both others behind edge
    ∙ (ap (λ (deleted : Bool). deleted || is_deleted behind edge) (kept_delete_none rest queries now edge)
    ∙ (same edge
    ∙ (ap (λ (deleted : Bool). deleted || is_deleted later edge) (sym undeleted)
    ∙ sym (deleted_in_both rest later edge))))))
  where
    others : List Entry
    others = first_stream (kept_tuples queries now rest)

-- an entry that isn't kept isn't kept at a later clock, before more entries
unkept_stays : (queries : List Query) (now after : ℕ) (entry : Entry) (rest later : List Entry) → Slides queries → now ≤ after →
    is_kept queries now entry rest ≡ false → is_kept queries after entry (rest ++ later) ≡ false
unkept_stays queries now after entry rest later slides le unkept = false_from_ne_true (is_kept queries after entry (rest ++ later)) (λ kept.
    let found = passes_any (λ (query : Query). is_live query.window after entry (rest ++ later)) queries kept in
    let slide = All-contains (λ (query : Query). 0 < query.window.slide) queries found.0 slides found.1 in
    let before = live_before entry.tuple.act found.0.window now after entry.tuple.time rest later slide le found.2 in
    false≢true (sym unkept ∙ any_passes (λ (query : Query). is_live query.window now entry rest) queries found.0 found.1 before))

-- one entry more in front, kept or not
one_in_front : (test : Bool) (queries : List Query) (now after : ℕ) (entry : Entry) (rest later behind : List Entry) → Slides queries → now ≤ after →
    ((edge : Edge) → is_deleted behind edge ≡ is_deleted later edge) → is_kept queries now entry rest ≡ test →
    kept_tuples queries after (first_stream (kept_tuples queries now rest) ++ behind) ≡ kept_tuples queries after (rest ++ later) →
    kept_tuples queries after (first_stream (if test then entry.tuple ∷ kept_tuples queries now rest else kept_tuples queries now rest) ++ behind)
    ≡ kept_tuples queries after (entry ∷ (rest ++ later))
unfolding kept_tuples
one_in_front true queries now after entry rest later behind slides le same kept further =
    rw (kept_alike queries now after entry rest later behind kept same, further) refl
one_in_front false queries now after entry rest later behind slides le same unkept further =
    rw (unkept_stays queries now after entry rest later slides le unkept) further

-- what is kept at a clock of what was kept at an earlier one is what is kept of what stood there
kept_of_kept : (entries : List Entry) (queries : List Query) (now after : ℕ) (later behind : List Entry) → Slides queries → now ≤ after →
    ((edge : Edge) → is_deleted behind edge ≡ is_deleted later edge) → kept_tuples queries after behind ≡ kept_tuples queries after later →
    kept_tuples queries after (first_stream (kept_tuples queries now entries) ++ behind) ≡ kept_tuples queries after (entries ++ later)
unfolding kept_tuples
kept_of_kept [] queries now after later behind slides le same kept = kept
kept_of_kept (entry ∷ rest) queries now after later behind slides le same kept =
    one_in_front (is_kept queries now entry rest) queries now after entry rest later behind slides le same refl
    (kept_of_kept rest queries now after later behind slides le same kept)

-- ---- the tick

none_passes : (queries : List Query) → list_any (λ (query : Query). false) queries ≡ false
none_passes [] = refl
none_passes (query ∷ queries) = none_passes queries

-- a tick is never kept
tick_not_kept : (queries : List Query) (now time : ℕ) (later : List Entry) →
    kept_tuples queries now (record { stream = 1; tuple = clock_tick time } ∷ later) ≡ kept_tuples queries now later
unfolding kept_tuples
tick_not_kept queries now time later = rw (none_passes queries) refl

-- with a tick behind or without it
kept_of_clocked : (test : Bool) (history : List Entry) (queries : List Query) (now after : ℕ) (later : List Entry) → Slides queries → now ≤ after →
    kept_tuples queries after
    (first_stream (if test then kept_tuples queries now history else kept_tuples queries now history ++ clock_tick now ∷ []) ++ later)
    ≡ kept_tuples queries after (history ++ later)
kept_of_clocked true history queries now after later slides le = kept_of_kept history queries now after later later slides le (λ edge. refl) refl
kept_of_clocked false history queries now after later slides le =
    let kept = kept_tuples queries now history in
    let tick : Entry = record { stream = 1; tuple = clock_tick now } in
    let split : first_stream (kept ++ clock_tick now ∷ []) ++ later ≡ first_stream kept ++ (tick ∷ later) =
    ap (λ (front : List Entry). front ++ later)
    (map-append (λ (tuple : TupleValue). record { stream = 1; tuple = tuple }) kept (clock_tick now ∷ []))
    ∙ append_assoc (first_stream kept) (tick ∷ []) later in
    ap (kept_tuples queries after) split
    ∙ kept_of_kept history queries now after later (tick ∷ later) slides le (λ edge. refl) (tick_not_kept queries after now later)

-- something is saved where something was there
clocked_some : (test : Bool) (now : ℕ) (tuples : List TupleValue) → has_time now tuples ≡ test →
    0 < length (if test then tuples else tuples ++ clock_tick now ∷ [])
clocked_some true now [] has = absurd (false≢true has)
clocked_some true now (tuple ∷ tuples) has = omega arith
clocked_some false now tuples none = let is = length-append tuples (clock_tick now ∷ []) in omega (arith, is)

-- ---- the clock

at_least_first : (times : List ℕ) (first : ℕ) → first ≤ fold max first times
at_least_first [] first = omega arith
at_least_first (time ∷ times) first = let more = at_least_first times (max first time) in omega (arith, more)

-- the clock of a history and more goes on from its own
clock_goes_on : (history later : List Entry) → clock (history ++ later) ≡ fold max (clock history) (map (λ (each : Entry). each.tuple.time) later)
clock_goes_on history later =
    ap (fold max 0) (map-append (λ (each : Entry). each.tuple.time) history later)
    ∙ fold-append max 0 (map (λ (each : Entry). each.tuple.time) history) (map (λ (each : Entry). each.tuple.time) later)

-- ---- what is saved

-- of a history with entries
pub saved_some : (history : List Entry) (queries : List Query) → 0 < length history →
    saved queries history ≡ with_clock (clock history) (kept_tuples queries (clock history) history)
saved_some [] queries some = absurd (omega (arith, some))
saved_some (entry ∷ later) queries some = refl

pub saved_of_more : SameIsEqual → SavedOfMore
saved_of_more same queries slides [] later = refl
saved_of_more same queries slides (entry ∷ rest) later =
    saved_some (others ++ later) queries some
    ∙ (ap (λ (now : ℕ). with_clock now (kept_tuples queries now (others ++ later))) clocks
    ∙ ap (with_clock after) (kept_of_clocked (has_time now kept) history queries now after later slides le))
  where
    history : List Entry
    history = entry ∷ rest

    now : ℕ
    now = clock history

    kept : List TupleValue
    kept = kept_tuples queries now history

    others : List Entry
    others = first_stream (saved queries history)

    after : ℕ
    after = clock (history ++ later)

    clocks : clock (others ++ later) ≡ after
    clocks =
        clock_goes_on others later
        ∙ (ap (λ (first : ℕ). fold max first (map (λ (each : Entry). each.tuple.time) later)) (clock_saved history queries (live_by_places same))
        ∙ sym (clock_goes_on history later))

    le : now ≤ after
    le = let least = at_least_first (map (λ (each : Entry). each.tuple.time) later) now in omega (arith, clock_goes_on history later, least)

    some : 0 < length (others ++ later)
    some =
        let there = clocked_some (has_time now kept) now kept refl in
        omega (arith, there, length-append others later, length-map {B = Entry} (saved queries history) (λ (tuple : TupleValue). record { stream = 1; tuple = tuple }))
