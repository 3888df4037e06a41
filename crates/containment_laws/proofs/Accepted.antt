-- The answers of accepted queries.
use Rattle.std.proofs.Common.{◌≡◌, ◌≢◌, ℕ, ◌+◌, Bool, true, not, List, [], ◌∷◌, ◌++◌, refl, sym, ap}
use Rattle.std.proofs.Common.{subst}
use Rattle.std.specs.Prelude.{All}
use Rattle.std.proofs.lemmas.Bool.{both_ways, not-true, false_from_ne_true}
use Rattle.std.proofs.lemmas.List.Elements.{All-head, All-tail}
use Rattle.std.proofs.lemmas.List.Kept.{IsStrictlySortedBy-filter}
use Rattle.rpq_base.specs.Order.{pair_cmp}
use Rattle.rpq_base.specs.Same.{same_name}
use Rattle.rpq_base.specs.declared.data.Label.{Label}
use Rattle.rpq_base.specs.declared.data.Edge.{Edge}
use Rattle.rpq_base.specs.declared.data.Entry.{Entry}
use Rattle.rpq_base.specs.declared.data.Pair.{Pair}
use Rattle.rpq_base.specs.declared.data.Event.{Event}
use Rattle.rpq_base.proofs.Equality.{names}
use Rattle.rpq_base.proofs.Members.{kept_members}
use Rattle.rpq_model.specs.declared.mode.Mode.{Mode}
use Rattle.rpq_model.specs.declared.mode.Mode.TheVariants.{Arbitrary, Simple}
use Rattle.rpq_model.specs.Path.{Leads}
use Rattle.rpq_model.specs.Window.{clock, edges_at}
use Rattle.rpq_model.specs.Answers.{IsJoinedBy, AreAnswers, AreAnswersAt}
use Rattle.rpq_model.specs.AnswerLaws.{HistoriesHaveAnswers}
use Rattle.rpq_model.specs.Events.{changes}
use Rattle.rpq_model.specs.Query.{Query, language_of, path_query}
use Rattle.rpq_model.specs.QueryEvents.{AreAllEventsFrom}
use Rattle.containment_laws.specs.Accepted.{IsAccepted, AcceptedHaveAnswers, AcceptedHaveEvents}
use Rattle.containment_laws.specs.Accepted.{AcceptedHaveAllEvents}
use Rattle.containment_laws.specs.SimplePaths.{query_with, apart, SimpleAnswersFromAll}
use Rattle.containment_laws.proofs.Agreeing.{answers_agree}
use Rattle.containment_laws.proofs.Distinct.{simple_back}

-- ---- answers between two vertices

-- whether a pair has two vertices
abbrev is_apart : Pair → Bool
is_apart pair = not (same_name pair.from pair.to)

told_apart : (pair : Pair) → is_apart pair ≡ true → pair.from ≢ pair.to
told_apart pair passes same =
    both_ways (same_name pair.from pair.to) (not-true (same_name pair.from pair.to) passes)
    ((names pair.from pair.to).1 same)

passes_apart : (pair : Pair) → pair.from ≢ pair.to → is_apart pair ≡ true
passes_apart pair differ =
    ap not (false_from_ne_true (same_name pair.from pair.to)
    (λ same. differ ((names pair.from pair.to).0 same)))

-- a simple path joins two vertices
joined_apart : (edges : List Edge) (language : List Label → Type 0) (pair : Pair) →
    IsJoinedBy edges language Simple pair → pair.from ≢ pair.to
joined_apart edges language pair joined same =
    joined.1.leads.some
    (simple_back joined.0 pair.from joined.1.taken
    (subst (λ (end : List ℕ). Leads pair.from joined.0 end) (sym same) joined.1.leads.leads))

pub simple_answers_from_all : (language : List Label → Type 0) → SimpleAnswersFromAll language
simple_answers_from_all language contained window now entries pairs are =
    let edges = edges_at window now entries in
    record {
      sorted = IsStrictlySortedBy-filter pair_cmp is_apart pairs are.sorted;
      exact = λ pair.
          let kept = kept_members pairs is_apart pair in
          let agree = answers_agree language contained window now entries pair in (
            (λ member.
                let both = kept.0 member in
                (agree (told_apart pair both.1)).1 ((are.exact pair).0 both.0)),
            (λ answer.
                let differ = joined_apart edges language pair answer in
                kept.1 ((are.exact pair).1 ((agree differ).0 answer), passes_apart pair differ)),
          );
    }

-- ---- accepted queries

-- the query, if it took all paths
abbrev by_all_paths : Query → Query
by_all_paths query =
    record { name = query.name; window = query.window; mode = Arbitrary; expr = query.expr }

by_mode : HistoriesHaveAnswers → (query : Query) → IsAccepted query → (history : List Entry)
    (mode : Mode) → query.mode ≡ mode →
    (pairs : List Pair) × AreAnswers (path_query query) history pairs
by_mode have query accepted history Arbitrary is = have query history is
by_mode have query accepted history Simple is =
    let now = clock history in
    let all = have (by_all_paths query) history refl in (
      apart all.0,
      subst (λ (mode : Mode). AreAnswersAt (query_with (language_of query) mode query.window) now
          history (apart all.0)) (sym is)
          (simple_answers_from_all (language_of query) (accepted is) query.window now history all.0
          all.1),
    )

pub accepted_have_answers : HistoriesHaveAnswers → AcceptedHaveAnswers
accepted_have_answers have query accepted history =
    by_mode have query accepted history query.mode refl

-- ---- their events

pub accepted_have_events : AcceptedHaveAnswers → AcceptedHaveEvents
accepted_have_events have [] all number before after = ([], refl)
accepted_have_events have (query ∷ queries) all number before after =
    let accepted = All-head IsAccepted query queries all in
    let old = have query accepted before in
    let new = have query accepted after in
    let own = changes number old.0 new.0 in
    let others = accepted_have_events have queries (All-tail IsAccepted query queries all)
    (number + 1) before after in
    (own ++ others.0, (own, others.0, (old.0, new.0, old.1, new.1, refl), others.1, refl))

-- those of each entry that follows a history
all_from : AcceptedHaveEvents → (queries : List Query) → All IsAccepted queries →
    (later before : List Entry) →
    (events : List (List Event)) × AreAllEventsFrom queries before later events
all_from have queries all [] before = ([], tt)
all_from have queries all (entry ∷ later) before =
    let after = before ++ entry ∷ [] in
    let own = have queries all 0 before after in
    let rest = all_from have queries all later after in
    (own.0 ∷ rest.0, (own.1, rest.1))

pub accepted_have_all_events : AcceptedHaveEvents → AcceptedHaveAllEvents
accepted_have_all_events have queries all history = all_from have queries all history []
