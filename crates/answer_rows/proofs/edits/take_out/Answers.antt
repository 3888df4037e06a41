use Rattle.std.proofs.Common.{rules, ◌≡◌, true, sym, ap, ◌∙◌}
use Rattle.std.specs.Result.{is_ok}
use Rattle.std.proofs.lemmas.Map.Steps.{set_value_same}
use Rattle.answer_rows.specs.BySource.{with_row}
use Rattle.answer_rows.proofs.Edited.{then_err}
use Rattle.answer_rows.proofs.Lookups.{at}
use Rattle.answer_rows.proofs.edits.take_out.Goals as goal

pub returns-clause-unchanged : goal.returns-clause-unchanged
returns-clause-unchanged c =
    let rows = c.args.rows.now in
    let from = c.args.from.now in
    let found : is_ok c.get_mut.result ≡ true = search rules in
    then_err c.take.result c.take.ensures.unchanged (λ same.
    c.get_mut.follows.holds c.take.new.self found
    ∙ (ap (with_row rows from) same
    ∙ set_value_same (at from) rows c.in_ok-get_mut.field-0.now (sym c.in_ok-get_mut.ensures.value)))
