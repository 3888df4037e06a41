-- Each entry brings a step: its events, and for each addition a path that shows it.
use Rattle.std.proofs.Common.{◌≡◌, ℕ, zero, suc, ◌+◌, ◌<◌, Bool, true, false, not, List, [], ◌∷◌}
use Rattle.std.proofs.Common.{◌++◌, All, Contains, map, cond, Some, slice_get}
use Rattle.std.proofs.Common.{refl, sym, subst, ◌∙◌, true≢false, arith}
use Rattle.std.specs.List.{list_any}
use Rattle.std.proofs.lemmas.Bool.{false≢true}
use Rattle.std.proofs.lemmas.List.Elements.{All-nil, All-head, All-tail, All-same, All-append}
use Rattle.std.proofs.lemmas.List.Elements.{All-map, All-filter, All-weaker, All-contains_itself}
use Rattle.std.proofs.lemmas.Option.{slice_get_within, get_or_from_slice_get}
use Rattle.rpq_base.specs.Same.{same_pair}
use Rattle.rpq_base.specs.declared.data.Entry.{Entry}
use Rattle.rpq_base.specs.declared.data.Event.{Event}
use Rattle.containment_laws.specs.Accepted.{IsAccepted, AcceptedHaveEvents}
use Rattle.join_bindings.specs.declared.event.JoinEvent.{JoinEvent}
use Rattle.join_bindings.specs.HaveJoinEvents.{HaveJoinEvents}
use Rattle.join_bindings.specs.Histories.{AreJoinEventsFrom}
use Rattle.join_bindings.specs.JoinText.{join_lines}
use Rattle.path_witness.specs.Shows.{Shown, AnswersAreShown}
use Rattle.rpq_model.specs.Answers.{IsAnswer}
use Rattle.rpq_model.specs.Events.{event, without, AreEvents}
use Rattle.rpq_model.specs.Query.{Query, path_query}
use Rattle.rpq_model.specs.QueryEvents.{AreEventsUnder}
use Rattle.two_way.specs.TwoWay.{walked, AreWalkedEvents}
use Rattle.entry_steps.specs.Laws.{EveryEntryHasAStep}
use Rattle.entry_steps.specs.Steps.{OptionsValue, StepValue, additions, IsShown, AreShown, IsStep}
use Rattle.entry_steps.specs.Steps.{AreEvaluable}

-- an addition under this number gains an answer of the query
abbrev GainsOf : Query → ℕ → List Entry → Event → Type 0
GainsOf query number history each =
    each.added ≡ true → (each.query ≡ number) × IsAnswer (path_query query) history each.pair

-- a query's additions gain its answers over the second history
gains_of : (query : Query) (number : ℕ) (before after : List Entry) (events : List Event) →
    AreEvents (path_query query) number before after events →
    All (GainsOf query number after) events
gains_of query number before after events are =
    let gains = GainsOf query number after in
    let lost = without are.0 are.1 in
    let gained = without are.1 are.0 in
    All-same gains events (map (event number false) lost ++ map (event number true) gained) are.4
    (All-append gains (map (event number false) lost) (map (event number true) gained)
    (All-map gains (event number false) lost (λ k d inside added. absurd (false≢true added)))
    (All-map gains (event number true) gained
    (All-filter (λ pair. not (list_any (same_pair pair) are.0))
    (λ pair. gains (event number true pair)) are.1
    (All-weaker (Contains are.1) (λ pair. gains (event number true pair))
    (λ pair member added. (refl, (are.3.exact pair).0 member)) are.1
    (All-contains_itself are.1)))))

-- the event's pair is an answer of its query, where the first of these has this number
record IsGained (queries : List Query) (number : ℕ) (history : List Entry) (event : Event)
    : Type 0 where
  pub place : ℕ
  pub query : Query
  pub numbered : event.query ≡ number + place
  pub there : slice_get queries place ≡ Some query
  pub answer : IsAnswer (path_query query) history event.pair

abbrev Gains : List Query → ℕ → List Entry → Event → Type 0
Gains queries number history each = each.added ≡ true → IsGained queries number history each

-- the additions of several queries gain answers of their queries
all_gain : (queries : List Query) (number : ℕ) (before after : List Entry) (events : List Event) →
    AreEventsUnder number queries before after events → All (Gains queries number after) events
all_gain [] number before after events are =
    All-same (Gains [] number after) events [] are (All-nil (Gains [] number after))
all_gain (query ∷ queries) number before after events are =
    let gains = Gains (query ∷ queries) number after in
    All-same gains events (are.0 ++ are.1) are.4 (All-append gains are.0 are.1
    (All-weaker (GainsOf query number after) gains
    (λ each own added. record {
      place = zero;
      query = query;
      numbered = (own added).0 ∙ omega arith;
      there = refl;
      answer = (own added).1;
    }) are.0 (gains_of query number before after are.0 are.2))
    (All-weaker (Gains queries (number + 1) after) gains
    (λ each later added.
    let gained = later added in
    record {
      place = suc gained.place;
      query = gained.query;
      numbered = omega (arith, gained.numbered);
      there = gained.there;
      answer = gained.answer;
    }) are.1 (all_gain queries (number + 1) before after are.1 are.3)))

-- what holds of all queries holds of the one at a place
at_place : (queries : List Query) (P : Query → Type 0) (place : ℕ) (query : Query) →
    All P queries → slice_get queries place ≡ Some query → P query
at_place queries P place query all there =
    subst P (get_or_from_slice_get queries place query query there)
    (all place query (slice_get_within queries place query there))

-- a gained pair has what shows it
one_shown : AnswersAreShown → (queries : List Query) → AreEvaluable queries →
    (history : List Entry) (event : Event) → IsGained queries 0 history event →
    (shown : Shown) × IsShown queries history event shown
one_shown have queries can history event gained =
    let query = gained.query in
    let accepted = at_place queries IsAccepted gained.place query can.accepted gained.there in
    let moves = at_place queries (λ (each : Query). 0 < each.window.slide) gained.place query
    can.move gained.there in
    let one = have query history event.pair moves accepted gained.answer in
    let here : gained.place ≡ event.query = omega (arith, gained.numbered) in (
      one.0,
      record {
        query = query;
        there = subst (λ (place : ℕ). slice_get queries place ≡ Some query) here gained.there;
        shows = one.1;
      },
    )

-- one event before others that are shown: where it's an addition, what shows it comes first
shown_before : (queries : List Query) (history : List Entry) (added : Bool) (event : Event)
    (events : List Event) →
    (added ≡ true → (one : Shown) × IsShown queries history event one) →
    (shown : List Shown) × AreShown queries history events shown →
    (shown : List Shown) × AreShown queries history (cond added (event ∷ events) events) shown
shown_before queries history true event events here later =
    let one = here refl in
    (one.0 ∷ later.0, (one.1, later.1))
shown_before queries history false event events here later = later

-- the additions have what shows them
all_shown : AnswersAreShown → (queries : List Query) → AreEvaluable queries →
    (history : List Entry) (events : List Event) → All (Gains queries 0 history) events →
    (shown : List Shown) × AreShown queries history (additions events) shown
all_shown have queries can history [] gained = ([], tt)
all_shown have queries can history (event ∷ events) gained =
    let gains = Gains queries 0 history in
    shown_before queries history event.added event (additions events)
    (λ added. one_shown have queries can history event
    (All-head gains event events gained added))
    (all_shown have queries can history events (All-tail gains event events gained))

-- these events make a step, with the paths where they are told, and these changes of bindings
step_of : (options : OptionsValue) (queries : List Query) (before after : List Entry)
    (events : List Event) (paths : Bool) → options.paths ≡ paths →
    AreWalkedEvents options.two_way queries before after events →
    (shown : List Shown)
    × AreShown queries (walked options.two_way after) (additions events) shown →
    (changes : List JoinEvent) × AreJoinEventsFrom queries options.joins
    (walked options.two_way before) (walked options.two_way after) changes →
    (step : StepValue) × IsStep options queries before after step
step_of options queries before after events true told are shown changes =
    let lines = join_lines options.joins changes.0 in (
      record { events = events; shown = shown.0; joined = lines },
      record {
        events = are;
        shown = λ _. shown.1;
        none_shown = λ silent. absurd (true≢false (sym told ∙ silent));
        joined = record { changes = changes.0; are = changes.1; lines_are = refl };
      },
    )
step_of options queries before after events false told are shown changes =
    let lines = join_lines options.joins changes.0 in (
      record { events = events; shown = []; joined = lines },
      record {
        events = are;
        shown = λ tells. absurd (false≢true (sym told ∙ tells));
        none_shown = λ _. refl;
        joined = record { changes = changes.0; are = changes.1; lines_are = refl };
      },
    )

-- an entry brings a step
pub every_step : AcceptedHaveEvents → AnswersAreShown → HaveJoinEvents → EveryEntryHasAStep
every_step have shown joined options queries can history entry =
    let before = walked options.two_way history in
    let after = walked options.two_way (history ++ entry ∷ []) in
    let found = have queries can.evaluable.accepted 0 before after in
    step_of options queries history (history ++ entry ∷ []) found.0 options.paths refl found.1
    (all_shown shown queries can.evaluable after found.0
    (all_gain queries 0 before after found.0 found.1))
    (joined.some queries options.joins can.evaluable.accepted can.sound before after)
