-- What is saved of a history stands in its place.
use Rattle.std.proofs.Common.{◌≡◌, ℕ, ◌<◌, Bool, true, false, List, [], ◌∷◌, ◌++◌, Some, sym, ap, subst, ◌∙◌, ◌⊎◌, inl, inr, ⊎_elim}
use Rattle.std.specs.Prelude.{Contains, slice_get, if◌then◌else◌}
use Rattle.std.proofs.lemmas.Option.{slice_get_within, get_or_from_slice_get, slice_get-get_or}
use Rattle.std.proofs.lemmas.List.Elements.{All-contains, Contains-append_left, Contains-append_cases}
use Rattle.rpq_base.proofs.Members.{cons_members, none_in}
use Rattle.rpq_base.specs.Laws.{SameIsEqual}
use Rattle.rpq_base.specs.TupleValue.{TupleValue}
use Rattle.rpq_base.specs.declared.data.Edge.{Edge}
use Rattle.rpq_base.specs.declared.data.Act.{Act}
use Rattle.rpq_base.specs.declared.data.Act.TheVariants.{Delete, Tick}
use Rattle.rpq_base.specs.declared.data.Entry.{Entry}
use Rattle.rpq_model.specs.Window.{WindowValue, Placed, Inserts, clock, edges_at}
use Rattle.rpq_model.specs.WindowLaws.{is_tuple_seen, OneEntryMore}
use Rattle.rpq_model.specs.Query.{Query}
use Rattle.rpq_model.proofs.LiveEdges.{one_inserted, inserts_no_delete, inserts_no_tick}
use Rattle.rpq_model.proofs.Places.{to_place, from_place, live_by_places, later_sees_less}
use Rattle.rpq_model.proofs.OneMore.{one_entry_more}
use Rattle.alike_histories.specs.Alike.{SeeAlike, AllSeeAlike}
use Rattle.alike_histories.proofs.Alike.{alike_with_more}
use Rattle.alike_histories.proofs.Outcomes.{alike_have_answers, alike_have_ends, alike_have_events}
use Rattle.saved_window.specs.Alike.{SavedKeepsTheStore}
use Rattle.saved_window.specs.Saved.{kept_tuples, clock_tick, has_time, saved, first_stream}
use Rattle.saved_window.specs.Continues.{SavedContinues}
use Rattle.saved_window.proofs.Clocks.{clock_saved}
use Rattle.saved_window.proofs.Kept.{map_members, mapped_member, kept_is_live, live_is_kept}

-- ---- members of what is saved

-- with a tick where none of the tuples has the time of the clock, each is one of them or a tick
clock_cases : (test : Bool) (now : ℕ) (tuples : List TupleValue) (tuple : TupleValue) →
    Contains (if test then tuples else tuples ++ clock_tick now ∷ []) tuple → Contains tuples tuple ⊎ (tuple.act ≡ Tick)
clock_cases true now tuples tuple member = inl member
clock_cases false now tuples tuple member = ⊎_elim
    (λ here. inl here)
    (λ last. ⊎_elim
    (λ is. inr (sym (ap (λ (each : TupleValue). each.act) is)))
    (λ none. absurd (none_in tuple none))
    ((cons_members (clock_tick now) [] tuple).0 last))
    (Contains-append_cases tuples (clock_tick now ∷ []) tuple member)

-- and each of them is still there
clock_keeps : (test : Bool) (now : ℕ) (tuples : List TupleValue) (tuple : TupleValue) → Contains tuples tuple →
    Contains (if test then tuples else tuples ++ clock_tick now ∷ []) tuple
clock_keeps true now tuples tuple member = member
clock_keeps false now tuples tuple member = Contains-append_left tuples (clock_tick now ∷ []) tuple member

-- a saved tuple is a kept one or a tick
saved_cases : (history : List Entry) (queries : List Query) (tuple : TupleValue) → Contains (saved queries history) tuple →
    Contains (kept_tuples queries (clock history) history) tuple ⊎ (tuple.act ≡ Tick)
saved_cases [] queries tuple member = absurd (none_in tuple member)
saved_cases (entry ∷ later) queries tuple member =
    let now = clock (entry ∷ later) in
    let kept = kept_tuples queries now (entry ∷ later) in
    clock_cases (has_time now kept) now kept tuple member

-- and each kept one is saved
kept_is_saved : (history : List Entry) (queries : List Query) (tuple : TupleValue) → Contains (kept_tuples queries (clock history) history) tuple →
    Contains (saved queries history) tuple
unfolding kept_tuples
kept_is_saved [] queries tuple member = absurd (none_in tuple member)
kept_is_saved (entry ∷ later) queries tuple member =
    let now = clock (entry ∷ later) in
    let kept = kept_tuples queries now (entry ∷ later) in
    clock_keeps (has_time now kept) now kept tuple member

-- ---- the same edges

alike_saved : SameIsEqual → (history : List Entry) (queries : List Query) (query : Query) → 0 < query.window.slide → Contains queries query →
    SeeAlike query.window history (first_stream (saved queries history))
alike_saved same history queries query some among = record {
  clocks = sym (clock_saved history queries (live_by_places same));
  edges = λ now after edge. (
    (λ member.
        let found = to_place history window now edge same member in
        let live : Placed = record { place = found.0; entry = found.1 } in
        let there = later_sees_less same window (clock history) now history live some after
        ((live_by_places same window now history live).1 (edge, found.2)) in
        let kept = live_is_kept history queries (clock history) 0 query live among there in
        seen_saved now edge found.1.tuple (kept_is_saved history queries found.1.tuple kept) found.2.undeleted.inserts found.2.seen),
    (λ member.
        let found = to_place others window now edge same member in
        let tuple = map_members at_first (saved queries history) found.1 (at_place others found.0 found.1 found.2.undeleted.there) in
        let same_tuple : tuple.0 ≡ found.1.tuple = ap (λ (entry : Entry). entry.tuple) tuple.2 in
        let inserts : Inserts tuple.0.act edge = subst (λ (each : TupleValue). Inserts each.act edge) (sym same_tuple) found.2.undeleted.inserts in
        let seen : is_tuple_seen window now tuple.0 ≡ true = ap (λ (each : TupleValue). is_tuple_seen window now each) same_tuple ∙ found.2.seen in
        ⊎_elim
        (λ kept. from_kept now edge tuple.0 kept inserts seen)
        (λ ticks. absurd (inserts_no_tick tuple.0.act edge inserts ticks))
        (saved_cases history queries tuple.0 tuple.1)),
  );
}
  where
    window : WindowValue
    window = query.window

    at_first : TupleValue → Entry
    at_first tuple = record { stream = 1; tuple = tuple }

    others : List Entry
    others = first_stream (saved queries history)

    delete_ticks : (act : Act) (edge : Edge) → act ≡ Delete edge → act ≡ Tick → ⊥
    delete_ticks act edge deletes ticks = cc

    at_place : (entries : List Entry) (place : ℕ) (entry : Entry) → slice_get entries place ≡ Some entry → Contains entries entry
    at_place entries place entry there = (place, slice_get_within entries place entry there, get_or_from_slice_get entries place entry entry there)

    -- no saved tuple is a delete
    no_delete : (entry : Entry) (edge : Edge) → Contains others entry → entry.tuple.act ≡ Delete edge → ⊥
    no_delete entry edge member deletes =
        let found = map_members at_first (saved queries history) entry member in
        let deletes_it : found.0.act ≡ Delete edge = ap (λ (each : Entry). each.tuple.act) found.2 ∙ deletes in
        ⊎_elim
        (λ kept.
        let live = kept_is_live history queries (clock history) 0 found.0 kept in
        let is = (live_by_places same live.query.window (clock history) history live.live).0 live.member in
        inserts_no_delete found.0.act is.0 edge (subst (λ (each : TupleValue). Inserts each.act is.0) live.is is.1.undeleted.inserts) deletes_it)
        (λ ticks. delete_ticks found.0.act edge deletes_it ticks)
        (saved_cases history queries found.0 found.1)

    from_kept : (now : ℕ) (edge : Edge) (tuple : TupleValue) → Contains (kept_tuples queries (clock history) history) tuple → Inserts tuple.act edge →
        is_tuple_seen window now tuple ≡ true → Contains (edges_at window now history) edge
    from_kept now edge tuple kept inserts seen =
        let live = kept_is_live history queries (clock history) 0 tuple kept in
        let is = (live_by_places same live.query.window (clock history) history live.live).0 live.member in
        let inserts_it : Inserts live.live.entry.tuple.act edge = subst (λ (each : TupleValue). Inserts each.act edge) (sym live.is) inserts in
        let same_edge : is.0 ≡ edge = one_inserted live.live.entry.tuple.act is.0 edge is.1.undeleted.inserts inserts_it in
        from_place history live.live.place live.live.entry window now edge same (record {
          undeleted = record {
            there = is.1.undeleted.there;
            inserts = inserts_it;
            stays = λ later other after at deletes.
                is.1.undeleted.stays later other after at (deletes ∙ ap (λ (each : Edge). Delete each) (sym same_edge));
          };
          seen = ap (λ (each : TupleValue). is_tuple_seen window now each) live.is ∙ seen;
        })

    seen_saved : (now : ℕ) (edge : Edge) (tuple : TupleValue) → Contains (saved queries history) tuple → Inserts tuple.act edge →
        is_tuple_seen window now tuple ≡ true → Contains (edges_at window now others) edge
    seen_saved now edge tuple member inserts seen =
        let there = mapped_member at_first (saved queries history) tuple member in
        from_place others there.0 (at_first tuple) window now edge same (record {
          undeleted = record {
            there = slice_get-get_or others there.0 (at_first tuple) there.1 ∙ ap (λ (entry : Entry). Some entry) there.2;
            inserts = inserts;
            stays = λ later other after at deletes. no_delete other edge (at_place others later other at) deletes;
          };
          seen = seen;
        })

pub saved_keeps_the_store : SameIsEqual → SavedKeepsTheStore
saved_keeps_the_store same queries slides history query among =
    alike_saved same history queries query (All-contains (λ (each : Query). 0 < each.window.slide) queries query slides among) among

-- ---- the same answers, ends and events

pub saved_continues : SameIsEqual → SavedContinues
saved_continues same queries slides history = record {
  answers = λ query among later pair. alike_have_answers query (history ++ later) (others ++ later) (alike later query among) pair;
  ends = λ query among later pair until. alike_have_ends more query (history ++ later) (others ++ later) (alike later query among) pair until;
  events = λ later entry events. alike_have_events more queries (history ++ later) (others ++ later) (alike later) entry events;
}
  where
    others : List Entry
    others = first_stream (saved queries history)

    more : OneEntryMore
    more = one_entry_more same

    alike : (later : List Entry) → AllSeeAlike queries (history ++ later) (others ++ later)
    alike later = alike_with_more more queries history others later (saved_keeps_the_store same queries slides history)
