-- The ends of answers, from deadline to deadline.
use Rattle.std.proofs.Common.{◌≡◌, ℕ, ◌+◌, ◌<◌, ◌≤◌, Bool, true, false, cond, ◌||◌, List, [], ◌∷◌}
use Rattle.std.proofs.Common.{◌++◌, length, get_or, map, max, Option, Some, None, refl, sym, ap}
use Rattle.std.proofs.Common.{subst, ◌∙◌, ◌⊎◌, inl, inr, ⊎_elim, arith}
use Rattle.std.specs.Prelude.{◌↔◌, Contains, if◌then◌else◌}
use Rattle.std.specs.BTreeMap.{BTreeMap, IsOrdered, get, is_at}
use Rattle.std.specs.BTreeSet.{insert_key}
use Rattle.std.specs.List.{list_any}
use Rattle.std.specs.List.Sorted.{IsStrictlySortedBy}
use Rattle.std.specs.Map.{keys_of, lookup}
use Rattle.std.specs.Ordering.{nat_cmp, is_eq}
use Rattle.std.proofs.lemmas.Bool.{cases_lt}
use Rattle.std.proofs.lemmas.Cmp.{tied_itself}
use Rattle.std.proofs.lemmas.List.{get_or_default}
use Rattle.std.proofs.lemmas.List.Elements.{Contains-get_or}
use Rattle.std.proofs.lemmas.List.Folds.{list_any-append}
use Rattle.std.proofs.lemmas.Map.Keys.{below_from_sorted}
use Rattle.std.proofs.lemmas.Map.Lookups.{exact_unsigned}
use Rattle.std.proofs.lemmas.Map.Views.{btree_map_get_iff}
use Rattle.rpq_base.specs.Order.{pair_cmp}
use Rattle.rpq_base.specs.Same.{same_pair}
use Rattle.rpq_base.specs.Laws.{SameIsEqual}
use Rattle.rpq_base.proofs.Equality.{same_tests, pairs as pair_test}
use Rattle.rpq_base.proofs.Members.{HasOneMore, none_in, cons_members, insert_members}
use Rattle.rpq_base.proofs.Orders.{pair_cmp_total, pair_cmp_exact}
use Rattle.rpq_base.specs.declared.data.Entry.{Entry}
use Rattle.rpq_base.specs.declared.data.Pair.{Pair}
use Rattle.rpq_model.specs.Window.{WindowValue, Placed, clock}
use Rattle.rpq_model.specs.WindowLaws.{IsTupleDeadline, IsLiveDeadline}
use Rattle.rpq_model.specs.Answers.{PathQuery, IsAnswerAt, AreAnswersAt}
use Rattle.rpq_model.specs.declared.ended.Ended.{Ended}
use Rattle.rpq_model.specs.Ends.{IsUntil, AreEndedAnswers, pairs_of}
use Rattle.plain_evaluator.specs.Lasting.{AreDeadlines, GivesEnd, row_of}
use Rattle.rpq_model.proofs.OwnDeadlines.{one_deadline}
use Rattle.rpq_model.proofs.Ends.{later_answers_less, ended_at, lasts_at, until_from_clocks}
use Rattle.rpq_base.proofs.InOrder.{is_equal}
use Rattle.rpq_model.proofs.Lasting.{above_clock, live_before, answer_lasts, no_answer, above_history}
use Rattle.rpq_model.proofs.Pairs.{has, has_iff}

-- ---- as far as a horizon

-- from the clock of the history on the pair is an answer until this time, and then none, unless
-- this is the horizon
pub record LastsUntil (query : PathQuery) (history : List Entry) (horizon : ℕ) (pair : Pair)
    (until : ℕ) : Type 0 where
  pub some : clock history < until
  pub within : until ≤ horizon
  pub lasts : (time : ℕ) → clock history ≤ time → time < until → IsAnswerAt query time history pair
  pub ended : until < horizon → IsAnswerAt query until history pair → ⊥

-- the ends as far as a horizon
abbrev pub AreEndsAt : PathQuery → List Entry → ℕ → BTreeMap Pair ℕ → Type 0
AreEndsAt query history horizon ends = (pair : Pair) (until : ℕ) →
    (get pair_cmp ends pair ≡ Some until) ↔ LastsUntil query history horizon pair until

-- none as far as the clock of the history
no_ends : (query : PathQuery) (history : List Entry) (ends : BTreeMap Pair ℕ) → ends.entries ≡ [] →
    AreEndsAt query history (clock history) ends
no_ends query history ends empty pair until =
    let none : get pair_cmp ends pair ≡ None = ap (lookup (is_at (pair_cmp pair))) empty in (
      (λ e. let never : None ≡ Some until = sym none ∙ e in cc),
      (λ lasts.
          let some = lasts.some in
          let within = lasts.within in
          absurd (omega (arith, some, within))),
    )

-- the horizon moves on, and from the old one to the new one no answer is lost
pub record MovesOn (query : PathQuery) (history : List Entry) (now next : ℕ) : Type 0 where
  pub slide : 0 < query.window.slide
  pub from : clock history ≤ now
  pub forward : now < next
  pub between : (deadline : ℕ) → IsLiveDeadline query.window (clock history) history deadline →
      (deadline ≤ now) ⊎ (next ≤ deadline)

-- so an answer at the old one is an answer below the new one
lasts_between : SameIsEqual → (query : PathQuery) (history : List Entry) (now next : ℕ)
    (pair : Pair) → MovesOn query history now next →
    IsAnswerAt query now history pair → (time : ℕ) → time < next →
    IsAnswerAt query time history pair
lasts_between same query history now next pair moves answer time less = ⊎_elim
    (λ before. later_answers_less same query time now history pair moves.slide
    (omega (arith, before)) answer)
    (λ after. answer_lasts same query now time history pair moves.slide
    (λ deadline live.
    let window = query.window in
    let some = moves.slide in
    let above = above_clock same window now history deadline some live in
    let first = live_before same window (clock history) now history deadline some moves.from live in
    ⊎_elim
    (λ past. absurd (omega (arith, above, past)))
    (λ later. omega (arith, less, later))
    (moves.between deadline first))
    answer)
    (cases_lt time now)

-- the ends of the pairs that are answers at the old horizon move to the new one
next_end : (test : Bool) → SameIsEqual → (query : PathQuery) (history : List Entry) (now next : ℕ)
    (pair : Pair) (until : ℕ) (before after : Option ℕ) →
    MovesOn query history now next → (test ≡ true) ↔ IsAnswerAt query now history pair →
    (before ≡ Some until) ↔ LastsUntil query history now pair until →
    after ≡ (if test then Some next else before) →
    (after ≡ Some until) ↔ LastsUntil query history next pair until
next_end true same query history now next pair until before after moves tells was is =
    let lasting = lasts_between same query history now next pair moves (tells.0 refl) in
    let forward = moves.forward in
    let from = moves.from in (
      (λ e.
          let both : Some next ≡ Some until = sym is ∙ e in
          let same_end : next ≡ until = cc in
          subst (LastsUntil query history next pair) same_end (record {
            some = omega (arith, forward, from);
            within = omega arith;
            lasts = λ time above below. lasting time below;
            ended = λ past. absurd (omega (arith, past));
          })),
      (λ lasts.
          let within = lasts.within in
          is ∙ ap Some (⊎_elim
          (λ less. absurd (lasts.ended less (lasting until less)))
          (λ le. omega (arith, le, within))
          (cases_lt until next))),
    )
next_end false same query history now next pair until before after moves tells was is =
    let none : IsAnswerAt query now history pair → ⊥ =
    λ answer. let test : false ≡ true = tells.1 answer in cc in
    let forward = moves.forward in (
      (λ e.
          let old = was.0 (sym is ∙ e) in
          let within = old.within in
          record {
            some = old.some;
            within = omega (arith, within, forward);
            lasts = old.lasts;
            ended = λ less. ⊎_elim
                (λ below. old.ended below)
                (λ le.
                let at_now : until ≡ now = omega (arith, le, within) in
                λ answer. none
                (subst (λ (time : ℕ). IsAnswerAt query time history pair) at_now answer))
                (cases_lt until now);
          }),
      (λ lasts.
          let within : until ≤ now = ⊎_elim
          (λ above. absurd (none (lasts.lasts now moves.from above)))
          (λ le. le)
          (cases_lt now until) in
          is ∙ was.1 (record {
            some = lasts.some;
            within = within;
            lasts = lasts.lasts;
            ended = λ less. lasts.ended (omega (arith, less, forward));
          })),
    )

-- and so the ends move on
next_ends : SameIsEqual → (query : PathQuery) (history : List Entry) (now next : ℕ)
    (pairs : List Pair) (before after : BTreeMap Pair ℕ) →
    MovesOn query history now next → AreAnswersAt query now history pairs →
    AreEndsAt query history now before →
    GivesEnd pairs next before after → AreEndsAt query history next after
next_ends same query history now next pairs before after moves are was is pair until =
    let test = has_iff pairs pair in
    next_end (has pairs pair) same query history now next pair until (get pair_cmp before pair)
    (get pair_cmp after pair) moves
    (λ e. (are.exact pair).0 (test.0 e), λ answer. test.1 ((are.exact pair).1 answer))
    (was pair until) (is pair)

-- where nothing is an answer at the horizon, its ends are the ends
last_end : (query : PathQuery) (history : List Entry) (horizon : ℕ) (pair : Pair) (until : ℕ) →
    clock history ≤ horizon →
    (IsAnswerAt query horizon history pair → ⊥) →
    LastsUntil query history horizon pair until ↔ IsUntil query history pair until
last_end query history horizon pair until from none =
    let at : ℕ → Type 0 = λ time. IsAnswerAt query time history pair in (
      (λ lasts.
          let some = lasts.some in
          let within = lasts.within in
          let at_end : max (clock history) until ≡ until = omega (arith, some) in
          until_from_clocks query history pair until
          (lasts.lasts (clock history) (omega arith) some)
          (λ answer. ⊎_elim
          (λ less. lasts.ended less (subst at at_end answer))
          (λ le.
          let at_horizon : max (clock history) until ≡ horizon =
          omega (arith, le, within, some) in
          none (subst at at_horizon answer))
          (cases_lt until horizon))
          (λ time less. lasts.lasts (max (clock history) time) (omega arith)
          (omega (arith, less, some)))),
      (λ is.
          let some = above_history query history pair until is in
          let at_end : until ≡ max (clock history) until = omega (arith, some) in
          record {
            some = some;
            within = ⊎_elim
                (λ more.
                let at_horizon : max (clock history) horizon ≡ horizon = omega (arith, from) in
                absurd (none (subst at at_horizon
                (lasts_at query history pair until is horizon more))))
                (λ le. le)
                (cases_lt horizon until);
            lasts = λ time above below.
                let at_time : max (clock history) time ≡ time = omega (arith, above) in
                subst at at_time (lasts_at query history pair until is time below);
            ended = λ less answer. ended_at query history pair until is (subst at at_end answer);
          }),
    )

-- ---- deadline after deadline

-- the deadlines before this place are at most the horizon, and the others are above it
pub record IsPast (deadlines : List ℕ) (place horizon : ℕ) : Type 0 where
  pub past : (other : ℕ) → other < place → other < length deadlines →
      get_or deadlines other 0 ≤ horizon
  pub ahead : (other : ℕ) → place ≤ other → other < length deadlines →
      horizon < get_or deadlines other 0

-- the ends as far as the deadline before this place
pub record IsAtDeadline (query : PathQuery) (history : List Entry) (deadlines : List ℕ)
    (place horizon : ℕ) (ends : BTreeMap Pair ℕ) : Type 0 where
  pub from : clock history ≤ horizon
  pub reached : IsPast deadlines place horizon
  pub ends_are : AreEndsAt query history horizon ends

-- what a list contains stands at its place
found_there : (deadlines : List ℕ) (deadline : ℕ) (found : Contains deadlines deadline) →
    get_or deadlines found.0 0 ≡ deadline
found_there deadlines deadline found =
    get_or_default deadlines found.0 0 deadline found.1 ∙ found.2

-- at first
pub first_deadline : SameIsEqual → (query : PathQuery) (history : List Entry) (deadlines : List ℕ)
    (ends : BTreeMap Pair ℕ) → 0 < query.window.slide →
    AreDeadlines query.window (clock history) history deadlines → ends.entries ≡ [] →
    IsAtDeadline query history deadlines 0 (clock history) ends
first_deadline same query history deadlines ends some are empty = record {
  from = omega arith;
  reached = record {
    past = λ other none below. absurd (omega (arith, none));
    ahead = λ other from below.
        let deadline = get_or deadlines other 0 in
        above_clock same query.window (clock history) history deadline some
        ((are.exact deadline).0 (Contains-get_or deadlines other 0 below));
  };
  ends_are = no_ends query history ends empty;
}

-- the next one
pub next_deadline : SameIsEqual → (query : PathQuery) (history : List Entry) (deadlines : List ℕ)
    (place now next : ℕ) (pairs : List Pair) (before after : BTreeMap Pair ℕ) →
    0 < query.window.slide → AreDeadlines query.window (clock history) history deadlines →
    IsAtDeadline query history deadlines place now before →
    place < length deadlines → next ≡ get_or deadlines place 0 →
    AreAnswersAt query now history pairs →
    GivesEnd pairs next before after →
    IsAtDeadline query history deadlines (place + 1) next after
next_deadline same query history deadlines place now next pairs before after some are so_far below
    next_is pairs_are put =
    let from = so_far.from in
    let forward : now < next =
    omega (arith, so_far.reached.ahead place (omega arith) below, next_is) in
    let rises : (other : ℕ) → place < other → other < length deadlines →
    next < get_or deadlines other 0 =
    λ other more within.
    omega (arith, below_from_sorted deadlines place other 0 are.rising more within, next_is) in
    let moves : MovesOn query history now next = record {
      slide = some;
      from = from;
      forward = forward;
      between = λ deadline live.
          let found = (are.exact deadline).1 live in
          let is = found_there deadlines deadline found in
          ⊎_elim
          (λ less. inl (omega (arith, so_far.reached.past found.0 less found.1, is)))
          (λ le. inr (⊎_elim
          (λ more. omega (arith, rises found.0 more found.1, is))
          (λ least.
          let here : found.0 ≡ place = omega (arith, le, least) in
          let same_place = ap (λ (at : ℕ). get_or deadlines at 0) here in
          omega (arith, is, same_place, next_is))
          (cases_lt place found.0)))
          (cases_lt found.0 place);
    } in
    record {
      from = omega (arith, from, forward);
      reached = record {
        past = λ other less within. ⊎_elim
            (λ before_it. omega (arith, so_far.reached.past other before_it within, forward))
            (λ le.
            let here : other ≡ place = omega (arith, le, less) in
            let same_place = ap (λ (at : ℕ). get_or deadlines at 0) here in
            omega (arith, same_place, next_is))
            (cases_lt other place);
        ahead = λ other more within. rises other (omega (arith, more)) within;
      };
      ends_are = next_ends same query history now next pairs before after moves pairs_are
          so_far.ends_are put;
    }

-- behind the last one
pub last_deadline : SameIsEqual → (query : PathQuery) (history : List Entry) (deadlines : List ℕ)
    (place horizon : ℕ) (ends : BTreeMap Pair ℕ) →
    0 < query.window.slide → AreDeadlines query.window (clock history) history deadlines →
    IsAtDeadline query history deadlines place horizon ends →
    length deadlines ≤ place → (pair : Pair) (until : ℕ) →
    (get pair_cmp ends pair ≡ Some until) ↔ IsUntil query history pair until
last_deadline same query history deadlines place horizon ends some are so_far all pair until =
    let window = query.window in
    let none : IsAnswerAt query horizon history pair → ⊥ =
    no_answer same query horizon history pair some (λ deadline live.
    let from = so_far.from in
    let above = above_clock same window horizon history deadline some live in
    let first = live_before same window (clock history) horizon history deadline some from live in
    let found = (are.exact deadline).1 first in
    let within = found.1 in
    let past = so_far.reached.past found.0 (omega (arith, within, all)) within in
    omega (arith, above, past, found_there deadlines deadline found)) in
    let last = last_end query history horizon pair until so_far.from none in
    let found = so_far.ends_are pair until in
    (λ e. last.0 (found.0 e), λ is. found.1 (last.1 is))

-- ---- the deadlines of entries

-- the numbers are exactly the deadlines of these entries
abbrev pub AreDeadlinesOf : WindowValue → List Placed → List ℕ → Type 0
AreDeadlinesOf window live deadlines = (deadline : ℕ) → Contains deadlines deadline
    ↔ ((each : Placed) × Contains live each × IsTupleDeadline window each.entry.tuple deadline)

-- one entry more
pub one_deadline_more : (window : WindowValue) (live : List Placed) (one : Placed)
    (more : List Placed) (deadline : ℕ) (before after : List ℕ) →
    HasOneMore live one more → IsTupleDeadline window one.entry.tuple deadline →
    after ≡ insert_key nat_cmp before deadline →
    AreDeadlinesOf window live before → AreDeadlinesOf window more after
one_deadline_more window live one more deadline before after has_more is after_is are other =
    let members = insert_members exact_unsigned before deadline other in (
      (λ member. ⊎_elim
          (λ here. (one, has_more.here, subst (IsTupleDeadline window one.entry.tuple) here is))
          (λ there.
          let found = (are other).0 there in
          (found.0, has_more.still found.0 found.1, found.2))
          (members.0 (subst (λ (all : List ℕ). Contains all other) after_is member))),
      (λ found. subst (λ (all : List ℕ). Contains all other) (sym after_is) (members.1 (⊎_elim
          (λ there. inr ((are other).1 (found.0, there, found.2)))
          (λ here. inl (one_deadline window one.entry.tuple deadline other is
          (subst (λ (each : Placed). IsTupleDeadline window each.entry.tuple other)
          (sym here) found.2)))
          (has_more.cases found.0 found.1)))),
    )

-- ---- ends by pairs

-- the order of the map finds exactly the equal pair
pair_found : (key other : Pair) → is_at (pair_cmp key) other ≡ same_pair other key
pair_found key other = same_tests (is_at (pair_cmp key) other) (same_pair other key) (
  (λ e. (pair_test other key).1 (sym (pair_cmp_exact key other (is_equal (pair_cmp key other) e)))),
  (λ e.
      let same : other ≡ key = (pair_test other key).0 e in
      ap (λ (pair : Pair). is_eq (pair_cmp key pair)) same
      ∙ ap is_eq (tied_itself pair_cmp_total key)),
)

-- one pair more has the end
one_put : (test here : Bool) (until : Option ℕ) (before : Option ℕ) →
    (if here then until else (if test then until else before))
    ≡ (if test || (here || false) then until else before)
one_put true true until before = refl
one_put true false until before = refl
one_put false true until before = refl
one_put false false until before = refl

-- and so for all of them
pub end_put : (pairs : List Pair) (key pair : Pair) (until : ℕ) (before had has_now : Option ℕ) →
    had ≡ (if list_any (same_pair pair) pairs then Some until else before) →
    has_now ≡ cond (is_at (pair_cmp key) pair) (Some until) had →
    has_now ≡ (if list_any (same_pair pair) (pairs ++ key ∷ []) then Some until else before)
end_put pairs key pair until before had has_now had_is now_is =
    let test = list_any (same_pair pair) pairs in
    let here = same_pair pair key in
    now_is
    ∙ (ap (λ (found : Bool). cond found (Some until) had) (pair_found key pair)
    ∙ (ap (λ (old : Option ℕ). cond here (Some until) old) had_is
    ∙ (one_put test here (Some until) before
    ∙ ap (λ (found : Bool). if found then Some until else before)
    (sym (list_any-append (same_pair pair) pairs (key ∷ []))))))

-- the rows of a map with all ends
row_member : (entries : List (Pair × ℕ)) (pair : Pair) (until : ℕ) →
    Contains (map row_of entries) (row_of (pair, until)) ↔ Contains entries (pair, until)
row_member [] pair until = (
  (λ member. absurd (none_in (row_of (pair, until)) member)),
  (λ member. absurd (none_in (pair, until) member)),
)
row_member (first ∷ entries) pair until =
    let rows = cons_members (row_of first) (map row_of entries) (row_of (pair, until)) in
    let all = cons_members first entries (pair, until) in
    let rest = row_member entries pair until in (
      (λ member. all.1 (⊎_elim
          (λ here. inl (λ i. ((here i).pair, (here i).until)))
          (λ later. inr (rest.0 later))
          (rows.0 member))),
      (λ member. rows.1
          (⊎_elim (λ here. inl (ap row_of here)) (λ later. inr (rest.1 later)) (all.0 member))),
    )

-- their pairs are its keys
row_pairs : (entries : List (Pair × ℕ)) → pairs_of (map row_of entries) ≡ keys_of entries
row_pairs [] = refl
row_pairs (first ∷ entries) = ap (λ (rest : List Pair). first.0 ∷ rest) (row_pairs entries)

-- and so they are the answers, where its ends are theirs
pub rows_from_ends : (query : PathQuery) (history : List Entry) (ends : BTreeMap Pair ℕ)
    (rows : List Ended) → IsOrdered pair_cmp ends →
    rows ≡ map row_of ends.entries →
    ((pair : Pair) (until : ℕ) →
    (get pair_cmp ends pair ≡ Some until) ↔ IsUntil query history pair until) →
    AreEndedAnswers query history rows
rows_from_ends query history ends rows sorted is are = subst (AreEndedAnswers query history)
    (sym is) (record {
      sorted = subst (IsStrictlySortedBy pair_cmp) (sym (row_pairs ends.entries)) sorted;
      exact = λ pair until.
          let member = row_member ends.entries pair until in
          let found = btree_map_get_iff pair_cmp_total pair_cmp_exact ends sorted pair until in
          let end = are pair until in
          (λ row. end.0 (found.1 (member.0 row)), λ is_until. member.1 (found.0 (end.1 is_until)));
    })
