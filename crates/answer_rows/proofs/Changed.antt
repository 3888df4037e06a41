-- The pairs of rows that others lack, source by source.
use Rattle.std.proofs.Common.{◌≡◌, ℕ, Bool, true, false, not, cond, List, [], ◌∷◌, ◌++◌, map, filter, refl, sym, ap, ◌∙◌, append_assoc}
use Rattle.std.specs.List.{list_any}
use Rattle.std.proofs.lemmas.List.{append-nil, map-append}
use Rattle.std.proofs.lemmas.List.Concat.{flat_map-append}
use Rattle.std.proofs.lemmas.List.Elements.{filter-append}
use Rattle.rpq_base.specs.Same.{same_name, same_pair}
use Rattle.rpq_base.specs.declared.data.Pair.{Pair}
use Rattle.rpq_base.specs.declared.data.Event.{Event}
use Rattle.rpq_base.proofs.Equality.{names, same_tests}
use Rattle.answer_rows.specs.Answers.{Answer, pair, pair_of, pairs, row_of, has_target}
use Rattle.answer_rows.specs.BySource.{BySource, answer, answers}
use Rattle.answer_rows.specs.Changes.{without}
use Rattle.answer_rows.specs.RowChanges.{row_without}
use Rattle.answer_rows.specs.declared.target.Target.{Target}

-- ---- a pair is there where its target is in the row of its source

-- the test of two names is symmetric
same_turned : (first second : List ℕ) → same_name first second ≡ same_name second first
same_turned first second = same_tests (same_name first second) (same_name second first) (
  (λ e. (names second first).1 (sym ((names first second).0 e))),
  (λ e. (names first second).1 (sym ((names second first).0 e))),
)

there_step : (test : Bool) (from to : List ℕ) (first : Answer) (rest : List Answer) → same_name first.from from ≡ test →
    list_any (same_pair (pair from to)) (pairs rest) ≡ has_target (row_of rest from) to →
    list_any (same_pair (pair from to)) (pairs (first ∷ rest)) ≡ has_target (row_of (first ∷ rest) from) to
there_step true from to first rest e further = rw (same_turned from first.from, e, same_turned to first.to, further) refl
there_step false from to first rest e further = rw (same_turned from first.from, e) further

pub there_is_target : (from to : List ℕ) (others : List Answer) →
    list_any (same_pair (pair from to)) (pairs others) ≡ has_target (row_of others from) to
there_is_target from to [] = refl
there_is_target from to (first ∷ rest) = there_step (same_name first.from from) from to first rest refl (there_is_target from to rest)

-- ---- one source

lacks_step : (test : Bool) (from : List ℕ) (first : Target) (targets : List Target) (rest : List Pair) (row : List Target) →
    rest ≡ row_without from targets row →
    cond (not test) (pair from first.to ∷ rest) rest
    ≡ map (λ (each : Target). pair from each.to) (cond (not test) (first ∷ filter (λ each. not (has_target row each.to)) targets) (filter (λ each. not (has_target row each.to)) targets))
lacks_step true from first targets rest row further = further
lacks_step false from first targets rest row further = ap (λ (all : List Pair). pair from first.to ∷ all) further

-- the pairs of one row that others lack
pub row_lacks : (from : List ℕ) (targets : List Target) (others : List Answer) →
    without (pairs (map (answer from) targets)) (pairs others) ≡ row_without from targets (row_of others from)
row_lacks from [] others = refl
row_lacks from (first ∷ rest) others =
    let row = row_of others from in
    let left = without (pairs (map (answer from) rest)) (pairs others) in
    ap (λ (test : Bool). cond (not test) (pair from first.to ∷ left) left) (there_is_target from first.to others)
    ∙ lacks_step (has_target row first.to) from first rest left row (row_lacks from rest others)

without_append : (firsts seconds others : List Pair) → without (firsts ++ seconds) others ≡ without firsts others ++ without seconds others
without_append firsts seconds others = filter-append (λ (each : Pair). not (list_any (same_pair each) others)) firsts seconds

-- the pairs of one source, and then those of the rest
pub first_source : (source : List ℕ × List Target) (rest : BySource) (others : List Answer) →
    without (pairs (answers (source ∷ rest))) (pairs others)
    ≡ row_without source.0 source.1 (row_of others source.0) ++ without (pairs (answers rest)) (pairs others)
first_source source rest others =
    ap (λ (all : List Pair). without all (pairs others)) (map-append pair_of (map (answer source.0) source.1) (answers rest))
    ∙ (without_append (pairs (map (answer source.0) source.1)) (pairs (answers rest)) (pairs others)
    ∙ ap (λ (all : List Pair). all ++ without (pairs (answers rest)) (pairs others)) (row_lacks source.0 source.1 others))

-- ---- the events

answers_append : (sources more : BySource) → answers (sources ++ more) ≡ answers sources ++ answers more
answers_append sources more = flat_map-append (λ (source : List ℕ × List Target). map (answer source.0) source.1) sources more

-- the events of more sources come behind
pub events_append : (sources more : BySource) (others : List Answer) (tell : Pair → Event) →
    map tell (without (pairs (answers (sources ++ more))) (pairs others))
    ≡ map tell (without (pairs (answers sources)) (pairs others)) ++ map tell (without (pairs (answers more)) (pairs others))
events_append sources more others tell =
    ap (λ (all : List Answer). map tell (without (pairs all) (pairs others))) (answers_append sources more)
    ∙ (ap (λ (all : List Pair). map tell (without all (pairs others))) (map-append pair_of (answers sources) (answers more))
    ∙ (ap (map tell) (without_append (pairs (answers sources)) (pairs (answers more)) (pairs others))
    ∙ map-append tell (without (pairs (answers sources)) (pairs others)) (without (pairs (answers more)) (pairs others))))

-- a source more: its events are those of its row
pub source_told : (sources : BySource) (from : List ℕ) (row : List Target) (others : List Answer) (tell : Pair → Event)
    (before so_far now : List Event) →
    so_far ≡ before ++ map tell (without (pairs (answers sources)) (pairs others)) →
    now ≡ so_far ++ map tell (row_without from row (row_of others from)) →
    now ≡ before ++ map tell (without (pairs (answers (sources ++ (from, row) ∷ []))) (pairs others))
source_told sources from row others tell before so_far now is more =
    let here = row_without from row (row_of others from) in
    let one : map tell (without (pairs (answers ((from, row) ∷ []))) (pairs others)) ≡ map tell here =
    ap (map tell) (first_source (from, row) [] others ∙ append-nil here) in
    more
    ∙ (ap (λ (events : List Event). events ++ map tell here) is
    ∙ (append_assoc before (map tell (without (pairs (answers sources)) (pairs others))) (map tell here)
    ∙ ap (λ (events : List Event). before ++ events)
    (ap (λ (events : List Event). map tell (without (pairs (answers sources)) (pairs others)) ++ events) (sym one)
    ∙ sym (events_append sources ((from, row) ∷ []) others tell))))
