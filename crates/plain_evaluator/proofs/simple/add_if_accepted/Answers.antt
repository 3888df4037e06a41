use Rattle.std.proofs.Common.{ap, ◌∙◌}
use Rattle.std.specs.BTreeSet.{insert_key}
use Rattle.rpq_base.specs.Order.{pair_cmp}
use Rattle.path_syntax.specs.Expression.{expression}
use Rattle.path_syntax.specs.Language.{In}
use Rattle.rpq_model.specs.Relations.{between}
use Rattle.plain_evaluator.proofs.Onwards.{accepted}
use Rattle.plain_evaluator.proofs.simple.add_if_accepted.Goals as goal

pub returns-in_ok-insert : goal.returns-in_ok-insert
returns-in_ok-insert c =
    let word_in : In (expression c.args.expr.now) c.args.word.now = c.in_ok-accepts.ensures.answer.0 c.if-branch.true in
    let before = c.args.found.now.keys in
    accepted before c.insert.new.self.keys (In (expression c.args.expr.now) c.args.word.now) (between c.args.from.now c.args.to.now) word_in
    (c.in_ok-insert.ensures.keys ∙ ap (insert_key pair_cmp before) c.in_ok-pair_of.ensures)
