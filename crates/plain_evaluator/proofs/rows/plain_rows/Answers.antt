use Rattle.std.proofs.Common.{◌≡◌, ◌<◌, ℕ, List, Vec, Global, map, refl, sym, subst}
use Rattle.rpq_base.specs.Laws.{SameIsEqual}
use Rattle.rpq_base.specs.declared.data.Entry.{Entry}
use Rattle.rpq_base.proofs.Equality.{names, labels, edges, pairs}
use Rattle.std.proofs.lemmas.Result.{IfOk-weaker}
use Rattle.rpq_model.specs.declared.ended.Ended.{Ended}
use Rattle.rpq_model.specs.Window.{WindowValue, clock}
use Rattle.rpq_model.specs.Query.{Query, path_query}
use Rattle.rpq_model.specs.Ends.{AreEndedAnswers}
use Rattle.plain_evaluator.specs.Lasting.{AreDeadlines, row_of}
use Rattle.plain_evaluator.proofs.Horizons.{IsAtDeadline, first_deadline, next_deadline, last_deadline}
use Rattle.plain_evaluator.proofs.Horizons.{rows_from_ends}
use Rattle.plain_evaluator.proofs.rows.plain_rows.Goals as goal

same : SameIsEqual
same = record { names = names; labels = labels; edges = edges; pairs = pairs }

-- the slide of a query's window
slide_of : (query inside : Query) (window : WindowValue) → inside ≡ query → window ≡ inside.window →
    0 < window.slide → 0 < query.window.slide
slide_of query inside window is window_is some = subst (λ (each : Query). 0 < each.window.slide) is
    (subst (λ (each : WindowValue). 0 < each.slide) window_is some)

-- the deadlines that are gone through
deadlines_of : (query inside : Query) (now : ℕ) (entries : List Entry) (deadlines slice : List ℕ) →
    inside ≡ query → now ≡ clock entries →
    slice ≡ deadlines → AreDeadlines inside.window now entries deadlines →
    AreDeadlines query.window (clock entries) entries slice
deadlines_of query inside now entries deadlines slice is now_is slice_is are =
    subst (AreDeadlines query.window (clock entries) entries) (sym slice_is)
    (subst (λ (each : Query). AreDeadlines each.window (clock entries) entries deadlines) is
    (subst (λ (time : ℕ). AreDeadlines inside.window time entries deadlines) now_is are))

pub loop-deadline-init : goal.loop-deadline-init
loop-deadline-init c =
    let query = c.args.query.now in
    let entries = c.args.entries.now in
    let deadlines = c.deref-deadline-items.result.now in
    subst (λ (now : ℕ). IsAtDeadline (path_query query) entries deadlines 0 now c.new-ends.result)
    (sym c.clock-now.ensures.clock)
    (first_deadline same (path_query query) entries deadlines c.new-ends.result
    (slide_of query _ _ c.query.view_is (λ i. (c.query-inside.view_is i).window)
    c.query-inside.invariant.slide_from)
    (deadlines_of query _ _ entries _ deadlines c.query.view_is c.clock-now.ensures.clock
    c.deref-deadline-items.ensures.value c.in_ok-deadlines.ensures)
    c.new-ends.ensures.empty)

pub loop-deadline-preserved : goal.loop-deadline-preserved
loop-deadline-preserved c =
    let query = c.args.query.now in
    let entries = c.args.entries.now in
    let deadlines = c.deref-deadline-items.result.now in
    next_deadline same (path_query query) entries deadlines c.loop-deadline.deadline-index
    c.loop-deadline.now _ c.in_ok-pairs.pairs.items
    c.loop-deadline.ends c.put_ends.new.ends
    (slide_of query _ _ c.query.view_is (λ i. (c.query-inside.view_is i).window)
    c.query-inside.invariant.slide_from)
    (deadlines_of query _ _ entries _ deadlines c.query.view_is c.clock-now.ensures.clock
    c.deref-deadline-items.ensures.value c.in_ok-deadlines.ensures)
    c.loop-deadline.invariant c.loop-deadline-test.true refl c.in_ok-pairs.ensures
    c.in_ok-put_ends.ensures

pub returns : goal.returns
returns c =
    let query = c.args.query.now in
    let entries = c.args.entries.now in
    let deadlines = c.deref-deadline-items.result.now in
    let ends = c.loop-deadline.ends in
    IfOk-weaker c.in_rows.result
    (λ (rows : Vec Ended Global). rows.items ≡ map row_of ends.entries)
    (λ (rows : Vec Ended Global). AreEndedAnswers (path_query query) entries rows.items)
    (λ rows is. rows_from_ends (path_query query) entries ends rows.items c.in_rows.ensures.sorted
    is
    (last_deadline same (path_query query) entries deadlines c.loop-deadline.deadline-index
    c.loop-deadline.now ends
    (slide_of query _ _ c.query.view_is (λ i. (c.query-inside.view_is i).window)
    c.query-inside.invariant.slide_from)
    (deadlines_of query _ _ entries _ deadlines c.query.view_is c.clock-now.ensures.clock
    c.deref-deadline-items.ensures.value c.in_ok-deadlines.ensures)
    c.loop-deadline.invariant c.loop-deadline-test.false))
    c.in_rows.ensures.rows
