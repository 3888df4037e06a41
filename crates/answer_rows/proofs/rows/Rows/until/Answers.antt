use Rattle.std.proofs.Common.{List, sym, ap, ◌∙◌}
use Rattle.answer_rows.specs.Answers.{end_of, pair}
use Rattle.answer_rows.specs.declared.target.Target.{Target}
use Rattle.answer_rows.proofs.Ends.{ends_in_rows}
use Rattle.answer_rows.proofs.rows.Rows.until.Goals as goal

pub returns : goal.returns
returns c =
    c.end_of.ensures
    ∙ (ap (λ (row : List Target). end_of row c.args.to.now) c.targets.ensures.row
    ∙ sym (ends_in_rows c.args.self.now (pair c.args.from.now c.args.to.now)))
