-- How long answers last, from deadline to deadline.
use Rattle.std.proofs.Common.{◌≡◌, ℕ, ◌<◌, ◌≤◌, List, [], ◌∷◌, max, refl, subst, ⊎_elim, arith}
use Rattle.std.specs.Prelude.{Contains}
use Rattle.std.proofs.lemmas.Bool.{cases_lt}
use Rattle.std.proofs.lemmas.List.Elements.{All-head}
use Rattle.rpq_base.specs.Laws.{SameIsEqual}
use Rattle.rpq_base.specs.declared.data.Edge.{Edge}
use Rattle.rpq_base.specs.declared.data.Entry.{Entry}
use Rattle.rpq_base.specs.declared.data.Pair.{Pair}
use Rattle.rpq_model.specs.Path.{IsPath}
use Rattle.rpq_model.specs.Window.{WindowValue, Placed, clock, live_entries, edges_at}
use Rattle.rpq_model.specs.WindowLaws.{IsLiveDeadline}
use Rattle.rpq_model.specs.Answers.{PathQuery, IsAnswerAt}
use Rattle.rpq_model.specs.Ends.{IsUntil}
use Rattle.rpq_model.proofs.OwnDeadlines.{deadline_of, deadline_is, seen_below_deadline}
use Rattle.rpq_model.proofs.Ends.{ended_at}
use Rattle.rpq_model.proofs.LiveEdges.{at_place}
use Rattle.rpq_model.proofs.Paths.{more_edges}
use Rattle.rpq_model.proofs.Places.{to_place, from_place, live_by_places, later_sees_less}

-- ---- live deadlines

-- a live deadline is above the clock
pub above_clock : SameIsEqual → (window : WindowValue) (now : ℕ) (entries : List Entry)
    (deadline : ℕ) → 0 < window.slide →
    IsLiveDeadline window now entries deadline → now < deadline
above_clock same window now entries deadline some is =
    let live = (live_by_places same window now entries is.0).0 is.1 in
    (seen_below_deadline window now is.0.entry.tuple deadline some is.2).0 live.1.seen

-- what is live at a later clock is live before
pub live_before : SameIsEqual → (window : WindowValue) (now later : ℕ) (entries : List Entry)
    (deadline : ℕ) → 0 < window.slide → now ≤ later →
    IsLiveDeadline window later entries deadline → IsLiveDeadline window now entries deadline
live_before same window now later entries deadline some le
    is = (is.0, later_sees_less same window now later entries is.0 some le is.1, is.2)

-- a live edge has a live deadline, and is live at each clock below it
edge_lasts : SameIsEqual → (window : WindowValue) (now : ℕ) (entries : List Entry) (edge : Edge) →
    0 < window.slide →
    Contains (edges_at window now entries) edge →
    (deadline : ℕ) × IsLiveDeadline window now entries deadline
    × ((later : ℕ) → later < deadline → Contains (edges_at window later entries) edge)
edge_lasts same window now entries edge some member =
    let found = to_place entries window now edge same member in
    let entry = found.1 in
    let is = deadline_is window entry.tuple some in
    let live : Placed = at_place found.0 entry in
    let there : Contains (live_entries window now entries) live =
    (live_by_places same window now entries live).1 (edge, found.2) in (
      deadline_of window entry.tuple,
      (live, there, is),
      λ later less. from_place entries found.0 entry window later edge same (record {
        undeleted = found.2.undeleted;
        seen = (seen_below_deadline window later entry.tuple (deadline_of window entry.tuple) some is).1 less;
      }),
    )

-- an answer is one still where no live deadline has passed
pub answer_lasts : SameIsEqual → (query : PathQuery) (now later : ℕ) (entries : List Entry)
    (pair : Pair) → 0 < query.window.slide →
    ((deadline : ℕ) → IsLiveDeadline query.window now entries deadline → later < deadline) →
    IsAnswerAt query now entries pair → IsAnswerAt query later entries pair
answer_lasts same query now later entries pair some above =
    more_edges (edges_at query.window now entries) (edges_at query.window later entries)
    query.language query.mode pair
    (λ edge member.
    let lasts = edge_lasts same query.window now entries edge some member in
    lasts.2 later (above lasts.0 lasts.1))

-- no path goes over no edges
no_path : (path edges : List Edge) (from to : List ℕ) → ((edge : Edge) → Contains edges edge → ⊥) →
    IsPath edges from path to → ⊥
no_path [] edges from to none is = is.some refl
no_path (edge ∷ path) edges from to none is = none edge
    (All-head (Contains edges) edge path is.members)

-- without a live deadline there is no answer
pub no_answer : SameIsEqual → (query : PathQuery) (now : ℕ) (entries : List Entry) (pair : Pair) →
    0 < query.window.slide →
    ((deadline : ℕ) → IsLiveDeadline query.window now entries deadline → ⊥) →
    IsAnswerAt query now entries pair → ⊥
no_answer same query now entries pair some none answer =
    no_path answer.0 (edges_at query.window now entries) pair.from pair.to
    (λ edge member.
    let lasts = edge_lasts same query.window now entries edge some member in
    none lasts.0 lasts.1)
    answer.1.leads

-- ---- ends

-- an end is above the clock of the history
pub above_history : (query : PathQuery) (history : List Entry) (pair : Pair) (until : ℕ) →
    IsUntil query history pair until → clock history < until
above_history query history pair until is = ⊎_elim
    (λ less. less)
    (λ le.
    let at_clock : clock history ≡ max (clock history) until = omega (arith, le) in
    absurd (ended_at query history pair until is
    (subst (λ (time : ℕ). IsAnswerAt query time history pair) at_clock is.answer)))
    (cases_lt (clock history) until)
