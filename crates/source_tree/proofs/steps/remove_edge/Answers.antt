use Rattle.source_tree.proofs.Changing.{removed}
use Rattle.source_tree.proofs.steps.remove_edge.Goals as goal

pub returns-clause-changed : goal.returns-clause-changed
returns-clause-changed c =
    let found = c.search_removed.ensures in
    removed c.args.product.now c.args.tree.now c.search_removed.new.tree
    c.args.edge (λ shifts. shifts.items) c.search_removed.result
    found.optimal found.keeps found.cut found.shifts
