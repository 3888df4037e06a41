use Rattle.std.proofs.lemmas.Result.{on_ok_weaker}
use Rattle.rpq_model.proofs.Composing.{added_if}
use Rattle.plain_evaluator.proofs.relation.add_if.Goals as goal

pub returns-then-wanted : goal.returns-then-wanted
returns-then-wanted c =
    let pairs = c.args.pairs.now in
    let before = c.args.found.now.keys in
    let found = c.add_all.new.found.keys in
    on_ok_weaker c.add_all.result
    (added_if c.args.wanted pairs before found c.if-wanted.true) c.add_all.ensures
