use Rattle.std.proofs.Common.{arith}
use Rattle.source_tree.specs.Product.{product_of}
use Rattle.source_tree.proofs.Finals.{of_none, of_state}
use Rattle.source_tree.proofs.product.ProductGraph.is_final.Goals as goal

pub returns-then-state-states : goal.returns-then-state-states
returns-then-state-states c =
    let inside = product_of c.self.inside.store.now c.self.inside.dfa.now c.self.inside.finals.now
    c.self.inside.holders.now in
    of_none c.args.self.now inside c.self.view_is c.requires c.states.ensures.valid c.args.state
    (omega (arith, c.states.ensures.number, c.if-state-states.true))

pub returns : goal.returns
returns c =
    let inside = product_of c.self.inside.store.now c.self.inside.dfa.now c.self.inside.finals.now
    c.self.inside.holders.now in
    of_state c.args.self.now inside c.self.view_is c.requires c.states.ensures.valid c.args.state
    c.is_final.result c.is_final.ensures
