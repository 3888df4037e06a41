-- Rows that are put in one after another.
use Rattle.std.proofs.Common.{◌≡◌, ◌≢◌, ℕ, ◌+◌, ◌<◌, ◌≤◌, Bool, true, false, List, [], length, get_or}
use Rattle.std.proofs.Common.{take, Some, None, refl, sym, ap, subst, ◌∙◌, ⊎_elim, arith}
use Rattle.std.specs.Prelude.{◌↔◌, Contains}
use Rattle.std.specs.List.Sorted.{IsStrictlySortedBy}
use Rattle.std.specs.declared.cmp.Ordering.TheVariants.{Less, Equal}
use Rattle.std.proofs.lemmas.Bool.{both_ways}
use Rattle.std.proofs.lemmas.Cmp.{tied_itself}
use Rattle.std.proofs.lemmas.List.{get_or-map, get_or-take, length-map, length-take, take_all}
use Rattle.std.proofs.lemmas.Map.Keys.{Less-from_sorted}
use Rattle.rpq_base.specs.Order.{pair_cmp}
use Rattle.rpq_base.specs.Same.{same_pair}
use Rattle.rpq_base.specs.declared.data.Entry.{Entry}
use Rattle.rpq_base.specs.declared.data.Pair.{Pair}
use Rattle.rpq_base.proofs.Equality.{pairs as pair_test}
use Rattle.rpq_base.proofs.Members.{HasOneMore, none_in, next_one}
use Rattle.rpq_base.proofs.Orders.{pair_cmp_total}
use Rattle.rpq_model.specs.declared.ended.Ended.{Ended}
use Rattle.rpq_model.specs.Answers.{PathQuery}
use Rattle.rpq_model.specs.Ends.{AreEndedAnswers, pairs_of}
use Rattle.answer_rows.specs.Answers.{Answer, AreRows, KeepsOtherPairs, until_of}
use Rattle.answer_view.specs.View.{AreRowsOf}

-- the answer of a pair that ends at this time
abbrev ended : Pair → ℕ → Ended
ended pair until = record { pair = pair; until = until }

-- the pair of an answer
abbrev pair_of : Ended → Pair
pair_of answer = answer.pair

-- the rows have exactly these answers, each with its end
abbrev pub HaveEnds : List Answer → List Ended → Type 0
HaveEnds rows answers = (pair : Pair) (until : ℕ) →
    (until_of rows pair ≡ Some until) ↔ Contains answers (ended pair until)

-- an answer stands nowhere before its place
not_before : (answers : List Ended) (index : ℕ) (one : Ended) (until : ℕ) →
    IsStrictlySortedBy pair_cmp (pairs_of answers) → index < length answers →
    one ≡ get_or answers index one → Contains (take index answers) (ended one.pair until) → ⊥
not_before answers index one until sorted below is member =
    let place = member.0 in
    let pair = one.pair in
    let wanted = ended pair until in
    let less : place < index = omega (arith, member.1, length-take index answers) in
    let there : get_or answers place wanted ≡ wanted =
    sym (get_or-take index answers place wanted less) ∙ member.2 in
    let first : get_or (pairs_of answers) place pair ≡ pair =
    get_or-map pair_of answers place wanted pair (omega (arith, less, below)) ∙ ap pair_of there in
    let second : get_or (pairs_of answers) index pair ≡ pair =
    get_or-map pair_of answers index one pair below ∙ ap pair_of (sym is) in
    let within : index < length (pairs_of answers) = omega (arith, below, length-map answers pair_of) in
    let before = Less-from_sorted pair_cmp (pairs_of answers) place index pair sorted less within in
    let never : Equal ≡ Less =
    sym (tied_itself pair_cmp_total pair)
    ∙ (ap (λ (each : Pair). pair_cmp pair each) (sym second)
    ∙ (ap (λ (each : Pair). pair_cmp each (get_or (pairs_of answers) index pair)) (sym first) ∙ before)) in
    cc

-- none at first
pub no_rows : (rows : List Answer) → rows ≡ [] → HaveEnds rows []
no_rows rows empty pair until =
    let none : until_of rows pair ≡ None = ap (λ (all : List Answer). until_of all pair) empty in (
      (λ e. let never : None ≡ Some until = sym none ∙ e in cc),
      (λ member. absurd (none_in (ended pair until) member)),
    )

-- one answer more
pub one_row_more : (answers : List Ended) (index : ℕ) (one : Ended) (old new : List Answer) →
    IsStrictlySortedBy pair_cmp (pairs_of answers) → index < length answers →
    one ≡ get_or answers index one → HaveEnds old (take index answers) →
    until_of new one.pair ≡ Some one.until → KeepsOtherPairs one.pair old new →
    HaveEnds new (take (index + 1) answers)
one_row_more answers index one old new sorted below is had put kept pair until =
    tested (same_pair pair one.pair) refl
  where
    more : HasOneMore (take index answers) one (take (index + 1) answers)
    more = next_one answers index one below is

    tested : (test : Bool) → same_pair pair one.pair ≡ test →
        (until_of new pair ≡ Some until) ↔ Contains (take (index + 1) answers) (ended pair until)
    tested true e =
        let same : pair ≡ one.pair = (pair_test pair one.pair).0 e in (
          (λ found.
              let both : Some one.until ≡ Some until = sym put ∙ (ap (until_of new) (sym same) ∙ found) in
              let until_is : one.until ≡ until = cc in
              subst (Contains (take (index + 1) answers)) (λ i. ended (sym same i) (until_is i)) more.here),
          (λ member. ⊎_elim
              (λ before. absurd (not_before answers index one until sorted below is
              (subst (λ (each : Pair). Contains (take index answers) (ended each until)) same before)))
              (λ here. ap (until_of new) same ∙ (put ∙ ap (λ (each : Ended). Some each.until) here))
              (more.cases (ended pair until) member)),
        )
    tested false e =
        let differ : pair ≢ one.pair = λ same. both_ways (same_pair pair one.pair) e ((pair_test pair one.pair).1 same) in
        let old_end = had pair until in (
          (λ found. more.still (ended pair until) (old_end.0 (sym (kept pair differ) ∙ found))),
          (λ member. kept pair differ ∙ ⊎_elim
              (λ before. old_end.1 before)
              (λ here. absurd (differ (sym (ap (λ (each : Ended). each.pair) here))))
              (more.cases (ended pair until) member)),
        )

-- and so all of them
pub rows_from_answers : (query : PathQuery) (history : List Entry) (answers : List Ended)
    (index : ℕ) (rows : List Answer) → AreEndedAnswers query history answers → AreRows rows →
    length answers ≤ index → HaveEnds rows (take index answers) → AreRowsOf query history rows
rows_from_answers query history answers index rows are sorted all have = record {
  sorted = sorted;
  exact = λ pair until.
      let found = subst (HaveEnds rows) (take_all index answers all) have pair until in
      let end = are.exact pair until in
      (λ e. end.0 (found.0 e), λ is. found.1 (end.1 is));
}
