-- One mark for each edge is enough.
use Rattle.std.proofs.Common.{◌≡◌, ℕ, ◌<◌, ◌≤◌, Bool, true, false, nat_lt, List, Option, Some, None, refl, sym, ap, subst, ◌∙◌, ⊎_elim, arith}
use Rattle.std.specs.Prelude.{slice_get, if◌then◌else◌}
use Rattle.std.proofs.lemmas.Bool.{ltb-true, ltb-false}
use Rattle.std.proofs.lemmas.Option.{same_Some}
use Rattle.rpq_base.specs.Laws.{SameIsEqual}
use Rattle.rpq_base.specs.declared.data.Edge.{Edge}
use Rattle.rpq_base.specs.declared.data.Entry.{Entry}
use Rattle.rpq_base.proofs.Equality.{names, labels, edges, pairs}
use Rattle.rpq_model.specs.Query.{Query}
use Rattle.rpq_model.specs.Window.{WindowValue, Placed, clock}
use Rattle.rpq_model.specs.WindowLaws.{IsUndeletedAt}
use Rattle.rpq_model.proofs.LiveEdges.{one_inserted}
use Rattle.rpq_model.proofs.Places.{live_by_places, live_below_deadline}
use Rattle.path_witness.specs.declared.mark.Mark.{Mark}
use Rattle.path_witness.specs.Found.{IsLiveMark, IsFound, IsAtMost}
use Rattle.path_witness.specs.Marks.{MarksValue, StandsFor, IsMarkOf, kept_mark, mark_above, OneMarkIsEnough}

-- the tests for equal values find exactly the equal ones
pub same : SameIsEqual
same = record { names = names; labels = labels; edges = edges; pairs = pairs }

-- a live mark is one of an entry that no later one deletes, above the clock
live_is_above : (window : WindowValue) (history : List Entry) (edge : Edge) (mark : Mark) → 0 < window.slide → IsLiveMark window history edge mark →
    IsMarkOf window history edge mark × (clock history < mark.deadline)
live_is_above window history edge mark some is =
    let found = (live_by_places same window (clock history) history is.live).0 is.seen in
    let undeleted : IsUndeletedAt history edge is.live.place is.live.entry =
    subst (λ (each : Edge). IsUndeletedAt history each is.live.place is.live.entry)
    (one_inserted is.live.entry.tuple.act found.0 edge found.1.undeleted.inserts is.inserts) found.1.undeleted in (
      record { place = is.live.place; entry = is.live.entry; undeleted = undeleted; position = is.position; deadline = is.deadline },
      (live_below_deadline same window (clock history) history edge is.live mark.deadline some undeleted is.deadline).0 is.seen,
    )

-- and the other way round
above_is_live : (window : WindowValue) (history : List Entry) (edge : Edge) (mark : Mark) → 0 < window.slide → IsMarkOf window history edge mark →
    clock history < mark.deadline → IsLiveMark window history edge mark
above_is_live window history edge mark some is above =
    let live : Placed = record { place = is.place; entry = is.entry } in
    record {
      live = live;
      seen = (live_below_deadline same window (clock history) history edge live mark.deadline some is.undeleted is.deadline).1 above;
      inserts = is.undeleted.inserts;
      position = is.position;
      deadline = is.deadline;
    }

pub one_mark_is_enough : OneMarkIsEnough
one_mark_is_enough window history edge None some suffices = record {
  none = λ mark live.
      let above = live_is_above window history edge mark some live in
      let found = suffices.best mark above.0 above.1 in
      none_some found.0 found.1;
  some = tt;
}
  where
    none_some : (mark : Mark) → None ≡ Some mark → ⊥
    none_some mark e = cc
one_mark_is_enough window history edge (Some kept) some suffices = by (nat_lt (clock history) kept.deadline) refl
  where
    at_most : (mark : Mark) → IsLiveMark window history edge mark → IsAtMost mark kept
    at_most mark live =
        let above = live_is_above window history edge mark some live in
        let found = suffices.best mark above.0 above.1 in
        subst (IsAtMost mark) (sym (same_Some kept found.0 found.1)) found.2

    no_later : (mark : Mark) → IsAtMost mark kept → mark.deadline ≤ kept.deadline
    no_later mark most = ⊎_elim (λ less. omega (arith, less)) (λ equal. omega (arith, equal.0)) most

    by : (test : Bool) → nat_lt (clock history) kept.deadline ≡ test → IsFound window history edge (if test then Some kept else None)
    by true above = record {
      none = tt;
      some = record {
        live = above_is_live window history edge kept some suffices.one (ltb-true (clock history) kept.deadline above);
        best = at_most;
      };
    }
    by false over = record {
      none = λ mark live.
          omega (arith, (live_is_above window history edge mark some live).1, no_later mark (at_most mark live), ltb-false (clock history) kept.deadline over);
      some = tt;
    }

-- so what is kept, if its deadline is above the clock, is the best mark
pub found_is : (marks : MarksValue) (history : List Entry) (edge : Edge) (number : ℕ) (query : Query) (kept result : Option Mark) →
    StandsFor marks history → slice_get marks.queries number ≡ Some query → 0 < query.window.slide → kept ≡ kept_mark marks.rows edge number →
    result ≡ mark_above marks.clock kept → IsFound query.window history edge result
found_is marks history edge number query kept result stands there some kept_is result_is =
    subst (IsFound query.window history edge)
    (ap (λ (now : ℕ). mark_above now (kept_mark marks.rows edge number)) (sym stands.time)
    ∙ (ap (mark_above marks.clock) (sym kept_is) ∙ sym result_is))
    (one_mark_is_enough query.window history edge (kept_mark marks.rows edge number) some (stands.kept edge number query there))
