use Rattle.source_tree.proofs.Changing.{expired_result}
use Rattle.source_tree.proofs.steps.expire.Goals as goal

pub returns-clause-changed : goal.returns-clause-changed
returns-clause-changed c =
    let found = c.expire.ensures in
    expired_result c.args.tree.now c.expire.new.tree c.args.now c.expire.new.self.shifts
    c.expire.result found.gone found.beside found.due found.shifts
