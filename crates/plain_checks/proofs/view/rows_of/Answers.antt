use Rattle.std.proofs.Common.{sym, subst}
use Rattle.rpq_model.specs.Query.{path_query}
use Rattle.rpq_model.specs.Ends.{AreEndedAnswers}
use Rattle.plain_checks.proofs.FilledRows.{no_rows, one_row_more, rows_from_answers}
use Rattle.plain_checks.proofs.view.rows_of.Goals as goal

pub loop-each-init : goal.loop-each-init
loop-each-init c = no_rows c.new-rows.result c.new-rows.ensures

pub loop-each-preserved : goal.loop-each-preserved
loop-each-preserved c =
    let answers = c.deref-each-items.result.now in
    let query = path_query c.args.query.now in
    let are = subst (AreEndedAnswers query c.args.entries.now) (sym c.deref-each-items.ensures.value)
    c.in_ok-answers.ensures in
    one_row_more answers c.loop-each.each-index c.each-item.result c.loop-each.rows c.put.new.self
    are.sorted c.loop-each-test.true c.each-item.is c.loop-each.invariant c.in_ok-put.ensures.put
    c.in_ok-put.ensures.others

pub returns : goal.returns
returns c =
    let answers = c.deref-each-items.result.now in
    let query = path_query c.args.query.now in
    let entries = c.args.entries.now in
    let are = subst (AreEndedAnswers query entries) (sym c.deref-each-items.ensures.value)
    c.in_ok-answers.ensures in
    rows_from_answers query entries answers c.loop-each.each-index c.loop-each.rows are
    c.count-count.ensures.sorted c.loop-each-test.false c.loop-each.invariant
