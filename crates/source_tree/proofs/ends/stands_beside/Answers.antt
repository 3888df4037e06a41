use Rattle.source_tree.proofs.Standing.{by_states}
use Rattle.source_tree.proofs.ends.stands_beside.Goals as goal

pub returns-then-own-held : goal.returns-then-own-held
returns-then-own-held c old is held = c.stands_in.ensures

pub returns : goal.returns
returns c old is held =
    by_states c.args.product.now.finals c.args.product.now.holders old c.args.tree.now
    c.args.vertex c.args.run.now c.states_at-states.result.now is held c.states_at-states.ensures
    c.stands_with.result c.stands_with.ensures
