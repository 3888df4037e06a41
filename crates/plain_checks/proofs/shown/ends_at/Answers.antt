use Rattle.std.proofs.Common.{List, ap, ◌∙◌}
use Rattle.std.specs.List.{list_any}
use Rattle.rpq_model.specs.declared.ended.Ended.{Ended}
use Rattle.plain_checks.specs.PathTests.{is_row_of}
use Rattle.plain_checks.proofs.Showing.{end_decides}
use Rattle.plain_checks.proofs.shown.ends_at.Goals as goal

pub returns : goal.returns
returns c =
    end_decides c.args.query.now c.args.entries.now c.in_ok-rows.rows.items c.args.pair.now c.args.until c.has_row.result c.in_ok-rows.ensures
    (c.has_row.ensures ∙ ap (λ (rows : List Ended). list_any (is_row_of c.args.pair.now c.args.until) rows) c.deref.ensures.value)
