-- Each answer of an accepted query has an end.
use Rattle.std.proofs.Common.{◌≡◌, ℕ, zero, suc, ◌+◌, ◌*◌, ◌<◌, ◌≤◌, max, List, [], ◌∷◌}
use Rattle.std.proofs.Common.{refl, subst, ⊎_elim, arith}
use Rattle.std.specs.Prelude.{Contains}
use Rattle.std.proofs.lemmas.Bool.{cases_lt}
use Rattle.std.proofs.lemmas.Nat.{mul-le}
use Rattle.std.proofs.lemmas.List.Elements.{All-head}
use Rattle.rpq_base.specs.declared.data.Edge.{Edge}
use Rattle.rpq_base.specs.declared.data.Entry.{Entry}
use Rattle.rpq_base.specs.declared.data.Pair.{Pair}
use Rattle.rpq_model.specs.Window.{WindowValue, clock, edges_at}
use Rattle.rpq_model.specs.Answers.{Joins, IsAnswer, IsAnswerAt}
use Rattle.rpq_model.specs.Ends.{tick, with_tick}
use Rattle.rpq_model.specs.Query.{Query, language_of, path_query}
use Rattle.rpq_model.proofs.Clocks.{at_most_clock}
use Rattle.rpq_model.proofs.Deadlines.{deadline_of as of_time, deadline_is as is_of_time}
use Rattle.rpq_model.proofs.OwnDeadlines.{deadline_of, deadline_is, seen_below_deadline, within}
use Rattle.rpq_model.proofs.Pairs.{has, has_iff}
use Rattle.rpq_model.proofs.Places.{edges_by_places}
use Rattle.rpq_model.proofs.Ticks.{tick_moves_the_clock}
use Rattle.containment_laws.specs.Accepted.{IsAccepted, AcceptedHaveAnswers}
use Rattle.index_laws.specs.LawsOfBests.{AcceptedAnswersEnd}
use Rattle.index_laws.proofs.Told.{OrNot, told_by}
use Rattle.index_laws.proofs.Values.{same}

-- ---- no edge is live for ever

-- a clock at which no entry of the history is seen any more
abbrev all_gone : WindowValue → List Entry → ℕ
all_gone window history = (clock history + window.size) * window.slide

not_before : (window : WindowValue) (history : List Entry) → 0 < window.slide →
    clock history + window.size ≤ all_gone window history
not_before window history some =
    let number = clock history + window.size in
    let once : number * 1 ≡ number = omega arith in
    let more = mul-le number 1 number window.slide (omega arith) some in
    omega (arith, once, more)

none_left : (window : WindowValue) (history : List Entry) (edge : Edge) → 0 < window.slide →
    Contains (edges_at window (all_gone window history) history) edge → ⊥
none_left window history edge some member =
    let now = all_gone window history in
    let found = (edges_by_places same window now history edge).0 member in
    let tuple = found.1.tuple in
    let low = at_most_clock history found.0 found.1 0 found.2.undeleted.there in
    let due = deadline_is window tuple some in
    let due_of_time = is_of_time window tuple.time some in
    let after = not_before window history some in
    let reached : of_time window tuple.time ≤ now =
    due_of_time.least (clock history + window.size) (omega (arith, low, after)) in
    let no_later = within window tuple (deadline_of window tuple) (of_time window tuple.time) due
    due_of_time in
    let less = (seen_below_deadline window now tuple (deadline_of window tuple) some due).0
    found.2.seen in
    absurd (omega (arith, less, no_later, reached))

-- and so no pair is an answer there
joins_none : (path : List Edge) (query : Query) (edges : List Edge) (pair : Pair) →
    ((edge : Edge) → Contains edges edge → ⊥) →
    Joins edges (language_of query) query.mode pair path → ⊥
joins_none [] query edges pair none joins = joins.leads.some refl
joins_none (edge ∷ path) query edges pair none joins =
    none edge (All-head (Contains edges) edge path joins.leads.members)

ends_at_last : (query : Query) (history : List Entry) (pair : Pair) → 0 < query.window.slide →
    IsAnswer (path_query query) (with_tick history (all_gone query.window history)) pair → ⊥
ends_at_last query history pair some answer =
    let window = query.window in
    let now = all_gone window history in
    let at_now : max (clock history) now ≡ now = omega (arith, not_before window history some) in
    let moved = (tick_moves_the_clock (path_query query) history (tick now) pair refl).0 answer in
    let there = subst (λ (at : ℕ). IsAnswerAt (path_query query) at history pair) at_now moved in
    joins_none there.0 query (edges_at window now history) pair
    (λ edge member. none_left window history edge some member) there.1

-- ---- the first tick after which the pair is no answer

-- the least number that isn't of a kind which can be told
least_not : (count start : ℕ) (kind : ℕ → Type 0) → ((number : ℕ) → OrNot (kind number)) →
    ((number : ℕ) → number < start → kind number) → (kind (start + count) → ⊥) →
    (end : ℕ) × (kind end → ⊥) × ((number : ℕ) → number < end → kind number)
least_not zero start kind told before ended =
    let here : start ≡ start + 0 = omega arith in
    (start, (λ holds. ended (subst kind here holds)), before)
least_not (suc count) start kind told before ended = ⊎_elim
    (λ holds.
    let last : start + 1 + count ≡ start + suc count = omega arith in
    least_not count (start + 1) kind told
    (λ number less. below_next number start kind before holds (omega (arith, less)))
    (λ more. ended (subst kind last more)))
    (λ never. (start, never, before))
    (told start)
  where
    below_next : (number start : ℕ) (kind : ℕ → Type 0) →
        ((number : ℕ) → number < start → kind number) → kind start → number ≤ start → kind number
    below_next number start kind before holds le = ⊎_elim
        (λ less. before number less)
        (λ ge. let is : start ≡ number = omega (arith, ge, le) in subst kind is holds)
        (cases_lt number start)

-- whether a pair is an answer over a history: the query has a list of them
answer_or_not : AcceptedHaveAnswers → (query : Query) → IsAccepted query →
    (history : List Entry) (pair : Pair) → OrNot (IsAnswer (path_query query) history pair)
answer_or_not have query accepted history pair =
    let found = have query accepted history in
    let exact = found.1.exact pair in
    let test = has_iff found.0 pair in
    told_by (has found.0 pair)
    ((λ passes. exact.0 (test.0 passes)), (λ answer. test.1 (exact.1 answer)))

pub accepted_answers_end : AcceptedHaveAnswers → AcceptedAnswersEnd
accepted_answers_end have query history pair some accepted answer =
    let last = all_gone query.window history in
    let kind = λ (time : ℕ). IsAnswer (path_query query) (with_tick history time) pair in
    let from_first : 0 + last ≡ last = omega arith in
    let found = least_not last 0 kind
    (λ time. answer_or_not have query accepted (with_tick history time) pair)
    (λ time less. absurd (omega (arith, less)))
    (λ holds. ends_at_last query history pair some (subst kind from_first holds)) in
    (found.0, record { answer = answer; ended = found.1; lasts = found.2 })
