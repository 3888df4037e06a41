use Rattle.std.proofs.Common.{ℕ, List, ◌++◌, map, ap, ◌∙◌, arith}
use Rattle.std.proofs.lemmas.List.{take_all}
use Rattle.rpq_base.specs.declared.data.Event.{Event}
use Rattle.rpq_base.specs.declared.data.Pair.{Pair}
use Rattle.answer_rows.specs.Answers.{AreRows, AreTargets, row_of}
use Rattle.answer_rows.specs.Changes.{event}
use Rattle.answer_rows.specs.RowChanges.{rows_without}
use Rattle.answer_rows.proofs.Held.{held_are_rows, row_in_order}
use Rattle.answer_rows.proofs.Listed.{lacking_listed}
use Rattle.answer_rows.proofs.events.push_in.Goals as goal

pub returns : goal.returns
returns c =
    let rows = c.args.rows.now in
    let others = c.args.others.now in
    let sources = c.args.sources.now in
    let inside = c.rows.inside.rows in
    let count = c.rows.inside.count in
    let sorted : AreRows rows = rw (← c.rows.view_is) (held_are_rows inside count c.rows.invariant) in
    let in_order : (from : List ℕ) → AreTargets (row_of rows from) = λ from.
    row_in_order inside count rows from c.rows.invariant c.rows.view_is in
    let tell : Pair → Event = event c.args.kind.query c.args.kind.added in
    c.loop-from.invariant
    ∙ ap (λ (all : List Pair). c.args.events.now.items ++ map tell all)
    (ap (λ (listed : List (List ℕ)). rows_without listed rows others) (take_all c.loop-from.from-index sources (omega (arith, c.loop-from-test.false)))
    ∙ lacking_listed sources rows others c.requires.sorted sorted in_order c.requires.others)
