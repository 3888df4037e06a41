use Rattle.std.proofs.Common.{rules, ◌≡◌, ◌≤◌, true, false, List, length, sym, ap, subst, ◌∙◌}
use Rattle.answer_rows.specs.Answers.{pair, has_target, row_of}
use Rattle.answer_rows.specs.declared.target.Target.{Target}
use Rattle.answer_rows.proofs.Edited.{take_end, take_others, none_to_take, only_target, then_ok, both_ok}
use Rattle.answer_rows.proofs.Ends.{ends_in_rows}
use Rattle.answer_rows.proofs.rows.Rows.take.Goals as goal

pub returns-then-not-has_target-clause-taken : goal.returns-then-not-has_target-clause-taken
returns-then-not-has_target-clause-taken c =
    let to = c.args.to.now in
    let absent : false ≡ has_target (row_of c.args.self.now c.args.from.now) to =
    sym c.if-not-has_target.true
    ∙ (c.has_target.ensures ∙ ap (λ (row : List Target). has_target row to) c.targets-targets.ensures.row) in
    ends_in_rows c.args.self.now (pair c.args.from.now to) ∙ none_to_take (row_of c.args.self.now c.args.from.now) to absent

pub returns-then-count-gt1-clause-taken : goal.returns-then-count-gt1-clause-taken
returns-then-count-gt1-clause-taken c =
    then_ok c.take_from.result c.take_from.ensures.row
    (take_end c.args.self.now c.take_from.new.self c.args.from.now c.args.to.now)

pub returns-then-count-gt1-clause-others : goal.returns-then-count-gt1-clause-others
returns-then-count-gt1-clause-others c =
    both_ok c.take_from.result c.take_from.ensures.row c.take_from.ensures.others
    (take_others c.args.self.now c.take_from.new.self c.args.from.now c.args.to.now)

pub returns-clause-taken : goal.returns-clause-taken
returns-clause-taken c =
    let row = row_of c.args.self.now c.args.from.now in
    let to = c.args.to.now in
    let there : has_target row to ≡ true =
    ap (λ (each : List Target). has_target each to) (sym c.targets-targets.ensures.row) ∙ (sym c.has_target.ensures ∙ c.if-not-has_target.false) in
    let few : length row ≤ 1 = subst (λ (each : List Target). length each ≤ 1) c.targets-targets.ensures.row (search rules) in
    then_ok c.remove.result c.remove.ensures.row
    (λ gone. take_end c.args.self.now c.remove.new.self c.args.from.now to (gone ∙ only_target row to there few))

pub returns-clause-others : goal.returns-clause-others
returns-clause-others c =
    let row = row_of c.args.self.now c.args.from.now in
    let to = c.args.to.now in
    let there : has_target row to ≡ true =
    ap (λ (each : List Target). has_target each to) (sym c.targets-targets.ensures.row) ∙ (sym c.has_target.ensures ∙ c.if-not-has_target.false) in
    let few : length row ≤ 1 = subst (λ (each : List Target). length each ≤ 1) c.targets-targets.ensures.row (search rules) in
    both_ok c.remove.result c.remove.ensures.row c.remove.ensures.others
    (λ gone. take_others c.args.self.now c.remove.new.self c.args.from.now to (gone ∙ only_target row to there few))
