use Rattle.std.proofs.Common.{subst}
use Rattle.delta_forest.specs.Forest.{IsIndexed}
use Rattle.delta_forest.proofs.Indexed.{indexed}
use Rattle.delta_forest.proofs.forest.Forest.broken.Goals as goal

pub returns-clause-indexed : goal.returns-clause-indexed
returns-clause-indexed c = λ unbroken.
    let inside = c.self.inside in
    let state = inside.state in
    subst IsIndexed c.self.view_is
    (indexed inside.dfa state.store state.calls state.calls state.index
    inside.broken state.found.touched.items state.found.log.items
    (c.self.invariant.kept unbroken))
