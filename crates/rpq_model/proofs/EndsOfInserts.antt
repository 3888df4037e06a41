-- What the ends of inserts' own do.
use Rattle.std.proofs.Common.{◌≡◌, ℕ, ◌<◌, Bool, true, ◌&&◌, max, List, Option, Some, None, refl, sym, ap, subst, ◌∙◌, ⊎_elim, arith}
use Rattle.std.specs.Prelude.{Contains}
use Rattle.std.proofs.lemmas.Bool.{cases_Bool, cases_lt, and_parts, ltb-true, lt-ltb}
use Rattle.std.proofs.lemmas.Option.{slice_get_within, get_or_from_slice_get}
use Rattle.rpq_base.specs.Laws.{SameIsEqual}
use Rattle.rpq_base.specs.OwnEnds.{own_end, is_before_end}
use Rattle.rpq_base.specs.declared.data.Edge.{Edge}
use Rattle.rpq_base.specs.declared.data.Entry.{Entry}
use Rattle.rpq_model.specs.Window.{WindowValue, Placed, clock, is_in_window}
use Rattle.rpq_model.specs.WindowLaws.{is_tuple_seen}
use Rattle.rpq_model.specs.OwnEndLaws.{LiveBelowItsEnd, EarlyEndNeverLives, EndBeyondTheWindow, LaterDeadlineDecides, TickAtTheEnd}
use Rattle.rpq_model.specs.Ends.{tick, with_tick}
use Rattle.rpq_model.proofs.Clocks.{at_most_clock}
use Rattle.rpq_model.proofs.Deadlines.{seen_below_deadline as in_window_below}
use Rattle.rpq_model.proofs.LiveEdges.{at_place}
use Rattle.rpq_model.proofs.OwnDeadlines.{both_true, seen_below_deadline}
use Rattle.rpq_model.proofs.Places.{live_by_places, to_place, from_place}
use Rattle.rpq_model.proofs.Ticks.{clock_more, edges_still}

-- a clock before an end that is there is below it
before_its_end : (until : Option ℕ) (now end : ℕ) → until ≡ Some end → is_before_end now until ≡ true → now < end
before_its_end until now end is before =
    ltb-true now end (sym (ap (is_before_end now) is) ∙ before)

-- what is seen is seen before its end
seen_before_its_end : (window : WindowValue) (now : ℕ) (entry : Entry) (end : ℕ) →
    own_end entry.tuple.act ≡ Some end → is_tuple_seen window now entry.tuple ≡ true → now < end
seen_before_its_end window now entry end is seen =
    let until = own_end entry.tuple.act in
    let parts = and_parts (is_in_window window now entry.tuple.time) (is_before_end now until) seen in
    before_its_end until now end is parts.1

pub live_below_its_end : SameIsEqual → LiveBelowItsEnd
live_below_its_end same window now entries edge live end undeleted is inside =
    let until = own_end live.entry.tuple.act in (
      (λ member.
          let found = (live_by_places same window now entries live).0 member in
          seen_before_its_end window now live.entry end is found.1.seen),
      (λ less.
          let before : is_before_end now until ≡ true = ap (is_before_end now) is ∙ lt-ltb now end less in
          (live_by_places same window now entries live).1 (
            edge,
            record {
              undeleted = undeleted;
              seen = both_true (is_in_window window now live.entry.tuple.time) (is_before_end now until) inside before;
            },
          )),
    )

pub early_end_never_lives : SameIsEqual → EarlyEndNeverLives
early_end_never_lives same window now history live end is early from member =
    let found = (live_by_places same window now history live).0 member in
    let below = seen_before_its_end window now live.entry end is found.1.seen in
    let low = at_most_clock history live.place live.entry 0 found.1.undeleted.there in
    omega (arith, below, low, early, from)

pub end_beyond_the_window : EndBeyondTheWindow
end_beyond_the_window window now time of_time end some is beyond = ⊎_elim
    (λ inside.
    let below = (in_window_below window now time of_time some is).0 inside in
    let before : is_before_end now (Some end) ≡ true = lt-ltb now end (omega (arith, below, beyond)) in
    ap (λ (test : Bool). is_in_window window now time && test) before)
    (λ outside. ap (λ (test : Bool). test && is_before_end now (Some end)) outside
    ∙ sym (ap (λ (test : Bool). test && is_before_end now None) outside))
    (cases_Bool (is_in_window window now time))

pub later_deadline_decides : SameIsEqual → LaterDeadlineDecides
later_deadline_decides same window now entries edge first second deadline other some are first_is second_is =
    let below_first = seen_below_deadline window now first.entry.tuple deadline some first_is in
    let below_second = seen_below_deadline window now second.entry.tuple other some second_is in (
      (λ member.
          let found = to_place entries window now edge same member in
          let live = at_place found.0 found.1 in
          ⊎_elim
          (λ is.
          let less = below_first.0 (subst (λ (each : Placed). is_tuple_seen window now each.entry.tuple ≡ true) is found.2.seen) in
          omega (arith, less))
          (λ is.
          let less = below_second.0 (subst (λ (each : Placed). is_tuple_seen window now each.entry.tuple ≡ true) is found.2.seen) in
          omega (arith, less))
          (are.no_others live found.2.undeleted)),
      (λ less. ⊎_elim
          (λ below. from_place entries first.place first.entry window now edge same
          (record { undeleted = are.first_is; seen = below_first.1 below }))
          (λ over. from_place entries second.place second.entry window now edge same
          (record { undeleted = are.second_is; seen = below_second.1 (omega (arith, less, over)) }))
          (cases_lt now deadline)),
    )

pub tick_at_the_end : SameIsEqual → TickAtTheEnd
tick_at_the_end same window history edge end ends member =
    let now = clock (with_tick history end) in
    let moved : now ≡ max (clock history) end = clock_more history (tick end) in
    let still = subst (λ (edges : List Edge). Contains edges edge) (edges_still history window now (tick end) refl) member in
    let found = to_place history window now edge same still in
    let entry = found.1 in
    let there = found.2.undeleted.there in
    let has = ends entry
    (found.0, slice_get_within history found.0 entry there, get_or_from_slice_get history found.0 entry entry there)
    found.2.undeleted.inserts in
    let below = seen_before_its_end window now entry has.0 has.1 found.2.seen in
    omega (arith, below, has.2, moved)
