-- Answers end, at deadlines, and a query has one list of its answers with their ends.
use Rattle.std.proofs.Common.{◌≡◌, ◌≢◌, ℕ, zero, suc, ◌-◌, ◌<◌, ◌≤◌, max, List, []}
use Rattle.std.proofs.Common.{◌∷◌, refl, sym, ap, subst, ◌∙◌, ◌⊎◌, inl, inr, ⊎_elim, arith}
use Rattle.std.proofs.Common.{Ordering}
use Rattle.std.specs.Prelude.{All, Contains}
use Rattle.std.specs.declared.cmp.Ordering.TheVariants.{Less}
use Rattle.std.specs.Ordering.{nat_cmp, ordering_then}
use Rattle.std.specs.Cmp.{IsTotalOrder}
use Rattle.std.specs.List.Sorted.{IsStrictlySortedBy}
use Rattle.std.proofs.lemmas.Bool.{both_ways, cases_Bool, cases_eq, cases_lt}
use Rattle.std.proofs.lemmas.Cmp.{then_total, on_total, nat_cmp_total}
use Rattle.std.proofs.lemmas.List.Elements.{All-nil, All-cons, All-head, All-tail}
use Rattle.std.proofs.lemmas.Map.Keys.{sorted_tail}
use Rattle.std.proofs.lemmas.Map.Lookups.{CmpEqualImpliesEq, exact_unsigned}
use Rattle.std.proofs.lemmas.Map.Views.{All-after_first}
use Rattle.rpq_base.specs.Laws.{SameIsEqual}
use Rattle.rpq_base.specs.Order.{pair_cmp}
use Rattle.rpq_base.specs.declared.data.Entry.{Entry}
use Rattle.rpq_base.specs.declared.data.Pair.{Pair}
use Rattle.rpq_base.proofs.Members.{none_in, cons_members}
use Rattle.rpq_base.proofs.Orders.{both_equal, pair_cmp_total, pair_cmp_exact}
use Rattle.rpq_base.proofs.Sorted.{sorted_nil, sorted_cons, same_from_members}
use Rattle.rpq_model.specs.declared.ended.Ended.{Ended}
use Rattle.rpq_model.specs.Window.{WindowValue, Placed, clock, live_entries}
use Rattle.rpq_model.specs.WindowLaws.{IsTupleDeadline, IsLiveDeadline}
use Rattle.rpq_model.specs.Answers.{PathQuery, IsAnswerAt, IsAnswer, AreAnswers}
use Rattle.rpq_model.specs.Ends.{IsUntil, AreEndedAnswers, pairs_of}
use Rattle.rpq_model.proofs.OwnDeadlines.{deadline_of, deadline_is, one_deadline}
use Rattle.rpq_model.proofs.Ends.{ended_at, lasts_at, until_from_clocks}
use Rattle.rpq_model.proofs.Lasting.{above_clock, live_before, answer_lasts, no_answer}
use Rattle.rpq_model.proofs.Lasting.{above_history}
use Rattle.rpq_model.proofs.Pairs.{has, has_iff}

-- ---- answers end

-- the deadlines of entries have a bound
deadline_bound : (live : List Placed) (window : WindowValue) → 0 < window.slide →
    (bound : ℕ) × ((each : Placed) (deadline : ℕ) → Contains live each →
    IsTupleDeadline window each.entry.tuple deadline → deadline ≤ bound)
deadline_bound [] window some = (0, λ each deadline member is. absurd (none_in each member))
deadline_bound (first ∷ live) window some =
    let rest = deadline_bound live window some in
    let own = deadline_of window first.entry.tuple in (
      max own rest.0,
      λ each deadline member is. ⊎_elim
          (λ here.
          let at_first = subst (λ (one : Placed). IsTupleDeadline window one.entry.tuple deadline)
          (sym here) is in
          omega (
            arith,
            one_deadline window first.entry.tuple deadline own at_first
                (deadline_is window first.entry.tuple some),
          ))
          (λ there. omega (arith, rest.1 each deadline there is))
          ((cons_members first live each).0 member),
    )

-- from some clock on nothing is an answer
record IsOver (query : PathQuery) (history : List Entry) (horizon : ℕ) : Type 0 where
  pub from : clock history ≤ horizon
  pub none : (pair : Pair) → IsAnswerAt query horizon history pair → ⊥

-- there is such a clock
over : SameIsEqual → (query : PathQuery) (history : List Entry) → 0 < query.window.slide →
    (horizon : ℕ) × IsOver query history horizon
over same query history some =
    let window = query.window in
    let bound = deadline_bound (live_entries window (clock history) history) window some in
    let horizon = max (clock history) bound.0 in (
      horizon,
      record {
        from = omega arith;
        none = λ pair. no_answer same query horizon history pair some (λ deadline live.
            let above = above_clock same window horizon history deadline some live in
            let first = live_before same window (clock history) horizon history deadline some
            (omega arith) live in
            omega (arith, above, bound.1 first.0 deadline first.1 first.2));
      },
    )

-- an answer without an end would last below each time
lasts_ever : (time : ℕ) (query : PathQuery) (history : List Entry) (pair : Pair) →
    IsAnswer query history pair →
    ((until : ℕ) → IsUntil query history pair until → ⊥) →
    (((earlier : ℕ) → earlier < time →
    IsAnswerAt query (max (clock history) earlier) history pair) → ⊥) → ⊥
lasts_ever zero query history pair answer endless fails =
    fails (λ earlier less. absurd (omega (arith, less)))
lasts_ever (suc time) query history pair answer endless fails =
    lasts_ever time query history pair answer endless (λ lasts.
    endless time (until_from_clocks query history pair time answer
    (λ still. fails (λ earlier less. ⊎_elim
    (λ below. lasts earlier below)
    (λ le.
    let is : time ≡ earlier = omega (arith, le, less) in
    subst (λ (at : ℕ). IsAnswerAt query (max (clock history) at) history pair) is still)
    (cases_lt earlier time)))
    lasts))

pub answers_end : SameIsEqual → (query : PathQuery) (history : List Entry) (pair : Pair) →
    0 < query.window.slide → IsAnswer query history pair →
    ((until : ℕ) → IsUntil query history pair until → ⊥) → ⊥
answers_end same query history pair some answer endless =
    let passed = over same query history some in
    let horizon = passed.0 in
    let from = passed.1.from in
    lasts_ever (suc horizon) query history pair answer endless (λ lasts.
    let at_horizon : max (clock history) horizon ≡ horizon = omega (arith, from) in
    passed.1.none pair
    (subst (λ (at : ℕ). IsAnswerAt query at history pair) at_horizon (lasts horizon (omega arith))))

-- ---- ends are deadlines

-- an entry has this deadline, or none has
deadline_there : (live : List Placed) (window : WindowValue) (wanted : ℕ) → 0 < window.slide →
    ((each : Placed) × Contains live each × IsTupleDeadline window each.entry.tuple wanted)
    ⊎ ((each : Placed) (deadline : ℕ) → Contains live each →
    IsTupleDeadline window each.entry.tuple deadline → deadline ≢ wanted)
deadline_there [] window wanted some = inr (λ each deadline member is. absurd (none_in each member))
deadline_there (first ∷ live) window wanted some =
    let tuple = first.entry.tuple in
    let is_own = deadline_is window tuple some in
    let members = cons_members first live in ⊎_elim
    (λ same. inl (first, (members first).1 (inl refl), subst (IsTupleDeadline window tuple) same is_own))
    (λ differs. ⊎_elim
    (λ found. inl (found.0, (members found.0).1 (inr found.1), found.2))
    (λ none. inr (λ each deadline member is. ⊎_elim
    (λ here. λ same.
    let at_first = subst (λ (one : Placed). IsTupleDeadline window one.entry.tuple deadline)
    (sym here) is in
    differs (one_deadline window tuple (deadline_of window tuple) deadline is_own at_first ∙ same))
    (λ there. none each deadline there is)
    ((members each).0 member)))
    (deadline_there live window wanted some))
    (cases_eq (deadline_of window tuple) wanted)

pub ends_are_deadlines : SameIsEqual → (query : PathQuery) (history : List Entry) (pair : Pair)
    (until : ℕ) → 0 < query.window.slide →
    IsUntil query history pair until → IsLiveDeadline query.window (clock history) history until
ends_are_deadlines same query history pair until some is =
    let window = query.window in
    let now = until - 1 in
    let at : ℕ → Type 0 = λ time. IsAnswerAt query time history pair in
    let above : clock history < until = above_history query history pair until is in
    let before : max (clock history) now ≡ now = omega (arith, above) in
    let at_end : until ≡ max (clock history) until = omega (arith, above) in
    let lasts = lasts_at query history pair until is now (omega (arith, above)) in
    let from : clock history ≤ now = omega (arith, above) in
    ⊎_elim
    (λ found. live_before same window (clock history) now history until some from found)
    (λ none.
    let further : (deadline : ℕ) → IsLiveDeadline window now history deadline → until < deadline =
    λ deadline live.
    let passes = above_clock same window now history deadline some live in
    ⊎_elim
    (λ less. less)
    (λ le. absurd (none live.0 deadline live.1 live.2 (omega (arith, le, passes, above))))
    (cases_lt until deadline) in
    let answer = answer_lasts same query now until history pair some further (subst at before lasts)
    in
    absurd (ended_at query history pair until is (subst at at_end answer)))
    (deadline_there (live_entries window now history) window until some)

-- ---- one list

-- rows by their pairs, and then by their ends
abbrev row_cmp : Ended → Ended → Ordering
row_cmp first second = ordering_then (pair_cmp first.pair second.pair)
    (nat_cmp first.until second.until)

row_cmp_total : IsTotalOrder row_cmp
row_cmp_total = then_total (on_total (λ (row : Ended). row.pair) pair_cmp_total)
    (on_total (λ (row : Ended). row.until) nat_cmp_total)

row_cmp_exact : CmpEqualImpliesEq row_cmp
row_cmp_exact first second e =
    let parts = both_equal (pair_cmp first.pair second.pair) (nat_cmp first.until second.until) e in
    let pair = pair_cmp_exact first.pair second.pair parts.0 in
    let until = exact_unsigned first.until second.until parts.1 in
    λ i. record { pair = pair i; until = until i }

-- rows in the order of their pairs are in this order
rows_after : (rows : List Ended) (first : Ended) →
    All (λ pair. pair_cmp first.pair pair ≡ Less) (pairs_of rows) →
    All (λ row. row_cmp first row ≡ Less) rows
rows_after [] first below = All-nil (λ row. row_cmp first row ≡ Less)
rows_after (next ∷ rows) first below =
    let less = All-head (λ pair. pair_cmp first.pair pair ≡ Less) next.pair (pairs_of rows) below in
    All-cons (λ row. row_cmp first row ≡ Less) next rows
    (ap (λ (order : Ordering). ordering_then order (nat_cmp first.until next.until)) less)
    (rows_after rows first
    (All-tail (λ pair. pair_cmp first.pair pair ≡ Less) next.pair (pairs_of rows) below))

rows_sorted : (rows : List Ended) → IsStrictlySortedBy pair_cmp (pairs_of rows) →
    IsStrictlySortedBy row_cmp rows
rows_sorted [] sorted = sorted_nil row_cmp
rows_sorted (first ∷ rows) sorted =
    sorted_cons row_cmp first rows
    (rows_after rows first (All-after_first pair_cmp first.pair (pairs_of rows) sorted))
    (rows_sorted rows (sorted_tail pair_cmp first.pair (pairs_of rows) sorted))

pub ended_answers_are_one : (query : PathQuery) (history : List Entry) (rows others : List Ended) →
    AreEndedAnswers query history rows → AreEndedAnswers query history others → rows ≡ others
ended_answers_are_one query history rows others rows_are others_are =
    same_from_members row_cmp_total row_cmp_exact rows others (rows_sorted rows rows_are.sorted)
    (rows_sorted others others_are.sorted)
    (λ row. (
      (λ member. (others_are.exact row.pair row.until).1
          ((rows_are.exact row.pair row.until).0 member)),
      (λ member. (rows_are.exact row.pair row.until).1
          ((others_are.exact row.pair row.until).0 member)),
    ))

-- ---- the answers

-- a pair is that of a row
pair_there : (rows : List Ended) (pair : Pair) → Contains (pairs_of rows) pair →
    (until : ℕ) × Contains rows (record { pair = pair; until = until })
pair_there [] pair member = absurd (none_in pair member)
pair_there (first ∷ rows) pair member = ⊎_elim
    (λ here. (
      first.until,
      (cons_members first rows (record { pair = pair; until = first.until })).1
          (inl (λ i. record { pair = here i; until = first.until })),
    ))
    (λ there.
    let found = pair_there rows pair there in
    (found.0, (cons_members first rows (record { pair = pair; until = found.0 })).1 (inr found.1)))
    ((cons_members first.pair (pairs_of rows) pair).0 member)

-- and the pair of a row is there
row_there : (rows : List Ended) (row : Ended) → Contains rows row →
    Contains (pairs_of rows) row.pair
row_there [] row member = absurd (none_in row member)
row_there (first ∷ rows) row member =
    (cons_members first.pair (pairs_of rows) row.pair).1 (⊎_elim
    (λ here. inl (ap (λ (each : Ended). each.pair) here))
    (λ there. inr (row_there rows row there))
    ((cons_members first rows row).0 member))

pub ended_answers_are_answers : SameIsEqual →
    (query : PathQuery) (history : List Entry) (rows : List Ended) → 0 < query.window.slide →
    AreEndedAnswers query history rows → AreAnswers query history (pairs_of rows)
ended_answers_are_answers same query history rows some are = record {
  sorted = are.sorted;
  exact = λ pair.
      let test = has_iff (pairs_of rows) pair in (
        (λ member. let found = pair_there rows pair member in
            ((are.exact pair found.0).0 found.1).answer),
        (λ answer. ⊎_elim
            (λ found. test.0 found)
            (λ missing. absurd (answers_end same query history pair some answer (λ until is.
            let member = row_there rows (record { pair = pair; until = until })
            ((are.exact pair until).1 is) in
            both_ways (has (pairs_of rows) pair) missing (test.1 member))))
            (cases_Bool (has (pairs_of rows) pair))),
      );
}
