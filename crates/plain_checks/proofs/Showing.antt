-- What is shown: its least deadline, its end, and all of it.
use Rattle.std.proofs.Common.{◌≡◌, ℕ, ◌<◌, ◌≤◌, Bool, true, false, ◌&&◌, ◌||◌, ◌==◌, List, [], ◌∷◌, refl, sym, ap, subst, ◌∙◌, inl, inr, ⊎_elim, arith}
use Rattle.std.specs.Prelude.{◌↔◌, Contains, IsTrue}
use Rattle.std.specs.List.{list_any}
use Rattle.std.proofs.lemmas.Bool.{false≢true, and_parts}
use Rattle.std.proofs.lemmas.Bool.Decides.{Decides-eqb}
use Rattle.rpq_base.specs.Same.{same_pair}
use Rattle.rpq_base.specs.declared.data.Entry.{Entry}
use Rattle.rpq_base.specs.declared.data.Pair.{Pair}
use Rattle.rpq_base.proofs.Equality.{pairs}
use Rattle.rpq_base.proofs.Members.{cons_members, none_in, HasOneMore}
use Rattle.rpq_model.specs.declared.ended.Ended.{Ended}
use Rattle.rpq_model.specs.Window.{WindowValue, Placed, clock, inserted_edges, live_entries}
use Rattle.rpq_model.specs.WindowLaws.{IsTupleDeadline}
use Rattle.rpq_model.specs.Ends.{IsUntil, AreEndedAnswers}
use Rattle.rpq_model.specs.Query.{Query, path_query}
use Rattle.rpq_model.proofs.OwnDeadlines.{one_deadline}
use Rattle.plain_checks.specs.PathTests.{IsPathAt, HasNoPathAt, Fits, is_row_of}
use Rattle.path_witness.specs.Shows.{Shown, Shows, IsWindowPath, IsLeastDeadline}
use Rattle.path_witness.proofs.PathFinding.{edges_among}
use Rattle.plain_checks.proofs.PathFinding.{same_path}

-- ---- the least deadline

-- no deadline of the entries is below this one, and it was met among them or not
pub record IsLeastSoFar (window : WindowValue) (path : List Placed) (until : ℕ) (met : Bool) : Type 0 where
  pub from : (each : Placed) (deadline : ℕ) → Contains path each → IsTupleDeadline window each.entry.tuple deadline → until ≤ deadline
  pub met_is : IsTrue met ↔ ((each : Placed) × Contains path each × IsTupleDeadline window each.entry.tuple until)

pub least_more : (window : WindowValue) (before : List Placed) (one : Placed) (after : List Placed) (until deadline : ℕ) (met more : Bool) →
    HasOneMore before one after → IsTupleDeadline window one.entry.tuple deadline → until ≤ deadline → more ≡ (met || (deadline == until)) →
    IsLeastSoFar window before until met → IsLeastSoFar window after until more
least_more window before one after until deadline met more has_more is over more_is so_far = record {
  from = λ each other member other_is. ⊎_elim
      (λ there. so_far.from each other there other_is)
      (λ here. omega (arith, over, one_deadline window one.entry.tuple deadline other is (at_one each here other other_is)))
      (has_more.cases each member);
  met_is = (
    (λ e.
        either met (deadline == until) (sym more_is ∙ e)
        (λ was. let found = so_far.met_is.0 was in (found.0, has_more.still found.0 found.1, found.2))
        (λ now. (one, has_more.here, subst (IsTupleDeadline window one.entry.tuple) ((Decides-eqb deadline until).0 now) is))),
    (λ found.
        more_is
        ∙ ⊎_elim
        (λ there. first_holds met (deadline == until) (so_far.met_is.1 (found.0, there, found.2)))
        (λ here.
        second_holds met (deadline == until)
        ((Decides-eqb deadline until).1 (one_deadline window one.entry.tuple deadline until is (at_one found.0 here until found.2))))
        (has_more.cases found.0 found.1)),
  );
}
  where
    at_one : (each : Placed) → one ≡ each → (number : ℕ) → IsTupleDeadline window each.entry.tuple number → IsTupleDeadline window one.entry.tuple number
    at_one each here number each_is = subst (λ (some : Placed). IsTupleDeadline window some.entry.tuple number) (sym here) each_is

    either : {A : Type 0} (first second : Bool) → (first || second) ≡ true → (first ≡ true → A) → (second ≡ true → A) → A
    either true second e one_way other = one_way refl
    either false second e one_way other = other e

    first_holds : (first second : Bool) → first ≡ true → (first || second) ≡ true
    first_holds first second e = rw e refl

    second_holds : (first second : Bool) → second ≡ true → (first || second) ≡ true
    second_holds true second e = refl
    second_holds false second e = e

pub least_decides : (window : WindowValue) (path : List Placed) (until : ℕ) (met : Bool) → IsLeastSoFar window path until met →
    IsTrue met ↔ IsLeastDeadline window path until
least_decides window path until met so_far = (
  (λ e. record { met = so_far.met_is.0 e; from = so_far.from }),
  (λ least. so_far.met_is.1 least.met),
)

pub not_least : (window : WindowValue) (path : List Placed) (one : Placed) (until deadline : ℕ) → Contains path one →
    IsTupleDeadline window one.entry.tuple deadline → deadline < until → IsTrue false ↔ IsLeastDeadline window path until
not_least window path one until deadline member is below = (
  (λ e. absurd (false≢true e)),
  (λ least. absurd (omega (arith, below, least.from one deadline member is))),
)

-- ---- the end

row_is : (pair : Pair) (until : ℕ) (row : Ended) → IsTrue (is_row_of pair until row) ↔ (row ≡ record { pair = pair; until = until })
row_is pair until row = (
  (λ e.
      let parts = and_parts (same_pair row.pair pair) (row.until == until) e in
      let pair_is = (pairs row.pair pair).0 parts.0 in
      let until_is = (Decides-eqb row.until until).0 parts.1 in
      λ i. record { pair = pair_is i; until = until_is i }),
  (λ is. rw ((pairs row.pair pair).1 (ap (λ (each : Ended). each.pair) is), (Decides-eqb row.until until).1 (ap (λ (each : Ended). each.until) is)) refl),
)

any_row : (rows : List Ended) (pair : Pair) (until : ℕ) → IsTrue (list_any (is_row_of pair until) rows) ↔ Contains rows (record { pair = pair; until = until })
any_row [] pair until = (λ e. absurd (false≢true e), λ member. absurd (none_in _ member))
any_row (first ∷ rows) pair until =
    let wanted : Ended = record { pair = pair; until = until } in
    let here = row_is pair until first in
    let later = any_row rows pair until in
    let members = cons_members first rows wanted in (
      (λ e.
          members.1 (either (is_row_of pair until first) (list_any (is_row_of pair until) rows) e
          (λ is. inl (here.0 is)) (λ is. inr (later.0 is)))),
      (λ member. ⊎_elim
          (λ is. first_holds (is_row_of pair until first) (list_any (is_row_of pair until) rows) (here.1 is))
          (λ is. second_holds (is_row_of pair until first) (list_any (is_row_of pair until) rows) (later.1 is))
          (members.0 member)),
    )
  where
    either : {A : Type 0} (one other : Bool) → (one || other) ≡ true → (one ≡ true → A) → (other ≡ true → A) → A
    either true other e one_way second = one_way refl
    either false other e one_way second = second e

    first_holds : (one other : Bool) → one ≡ true → (one || other) ≡ true
    first_holds one other e = rw e refl

    second_holds : (one other : Bool) → other ≡ true → (one || other) ≡ true
    second_holds true other e = refl
    second_holds false other e = e

pub end_decides : (query : Query) (history : List Entry) (rows : List Ended) (pair : Pair) (until : ℕ) (has : Bool) → AreEndedAnswers (path_query query) history rows →
    has ≡ list_any (is_row_of pair until) rows → IsTrue has ↔ IsUntil (path_query query) history pair until
end_decides query history rows pair until has are is =
    let any = any_row rows pair until in
    let exact = are.exact pair until in (
      (λ e. exact.0 (any.0 (sym is ∙ e))),
      (λ end. is ∙ any.1 (exact.1 end)),
    )

-- ---- all of it

pub shows_decides : (query : Query) (history : List Entry) (pair : Pair) (shown : Shown) (path : List Placed) (fits least ends : Bool) →
    IsPathAt (live_entries query.window (clock history) history) shown.positions path →
    IsTrue fits ↔ Fits query pair (inserted_edges path) → IsTrue least ↔ IsLeastDeadline query.window path shown.until →
    IsTrue ends ↔ IsUntil (path_query query) history pair shown.until →
    IsTrue ((fits && least) && ends) ↔ Shows query history pair shown
shows_decides query history pair shown path fits least ends at fits_is least_is ends_is = (
  (λ e.
      let outer = and_parts (fits && least) ends e in
      let inner = and_parts fits least outer.0 in
      let fit = fits_is.0 inner.0 in
      record {
        path = path;
        positions = at.positions_are;
        is_path = record {
          seen = at.seen;
          joins = record {
            leads = record { some = fit.some; members = edges_among path live at.seen; leads = fit.leads };
            word = fit.word;
            taken = fit.taken;
          };
        };
        least = least_is.0 inner.1;
        until = ends_is.0 outer.1;
      }),
  (λ shows.
      let same = same_path query.window (clock history) history shows.path path shows.is_path.seen at.seen (shows.positions ∙ sym at.positions_are) in
      let is_path = subst (IsWindowPath query history pair) same shows.is_path in
      let joins = is_path.joins in
      let fit : Fits query pair (inserted_edges path) =
      record { some = joins.leads.some; leads = joins.leads.leads; word = joins.word; taken = joins.taken } in
      all_hold (fits_is.1 fit) (least_is.1 (subst (λ (some : List Placed). IsLeastDeadline query.window some shown.until) same shows.least)) (ends_is.1 shows.until)),
)
  where
    live : List Placed
    live = live_entries query.window (clock history) history

    all_hold : fits ≡ true → least ≡ true → ends ≡ true → ((fits && least) && ends) ≡ true
    all_hold p q r = rw (p, q, r) refl

pub shows_nothing : (query : Query) (history : List Entry) (pair : Pair) (shown : Shown) → HasNoPathAt (live_entries query.window (clock history) history) shown.positions →
    IsTrue false ↔ Shows query history pair shown
shows_nothing query history pair shown none = (
  (λ e. absurd (false≢true e)),
  (λ shows. absurd (none shows.path (record { seen = shows.is_path.seen; positions_are = shows.positions }))),
)
