use Rattle.std.proofs.Common.{List, sym, ap, ◌∙◌}
use Rattle.answer_rows.specs.RowEdits.{with_target}
use Rattle.answer_rows.specs.declared.target.Target.{Target}
use Rattle.answer_rows.proofs.Edited.{put_end, put_others, then_ok, both_ok}
use Rattle.answer_rows.proofs.rows.Rows.put.Goals as goal

pub returns-in-Some-clause-put : goal.returns-in-Some-clause-put
returns-in-Some-clause-put c =
    then_ok c.put_to.result c.put_to.ensures.row
    (put_end c.args.self.now c.put_to.new.self c.args.from.now c.args.to.now c.args.until)

pub returns-in-Some-clause-others : goal.returns-in-Some-clause-others
returns-in-Some-clause-others c =
    both_ok c.put_to.result c.put_to.ensures.row c.put_to.ensures.others
    (put_others c.args.self.now c.put_to.new.self c.args.from.now c.args.to.now c.args.until)

pub returns-in-None-clause-put : goal.returns-in-None-clause-put
returns-in-None-clause-put c =
    let first = ap (λ (row : List Target). with_target row c.args.to.now c.args.until) c.in-None.ensures.none in
    then_ok c.put_first.result c.put_first.ensures.row
    (λ row. put_end c.args.self.now c.put_first.new.self c.args.from.now c.args.to.now c.args.until (row ∙ sym first))

pub returns-in-None-clause-others : goal.returns-in-None-clause-others
returns-in-None-clause-others c =
    let first = ap (λ (row : List Target). with_target row c.args.to.now c.args.until) c.in-None.ensures.none in
    both_ok c.put_first.result c.put_first.ensures.row c.put_first.ensures.others
    (λ row. put_others c.args.self.now c.put_first.new.self c.args.from.now c.args.to.now c.args.until (row ∙ sym first))
