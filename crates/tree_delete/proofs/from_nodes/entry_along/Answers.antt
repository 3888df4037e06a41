use Rattle.std.proofs.Common.{◌≤◌, sym, subst}
use Rattle.edge_store.specs.Edges.{value_of}
use Rattle.dfa_table.specs.DfaValue.{step_of}
use Rattle.tree_insert.specs.Best.{IsAtLeast}
use Rattle.tree_delete.specs.Entries.{IsEntry, IsEntryBy}
use Rattle.tree_delete.proofs.BestEntries.{entry_of_edge, if_weaker}
use Rattle.tree_delete.proofs.from_nodes.entry_along.Goals as goal

pub returns-clause-entry : goal.returns-clause-entry
returns-clause-entry g c =
    let values = value_of c.args.store.now in
    let step = step_of c.args.dfa.now in
    let value = c.in_ok-value.value in
    if_weaker c.entry_from.result (IsEntryBy step (g.T.PathTree.tree c.args.tree.now) c.args.id
    c.args.edge value)
    (IsEntry values step (g.T.PathTree.tree c.args.tree.now) c.args.id)
    (λ entry by. entry_of_edge step (g.T.PathTree.tree c.args.tree.now) c.args.id values c.args.edge
    value entry
    c.requires.ends (sym c.in_ok-value.ensures) by) c.entry_from.ensures.entry

pub returns-clause-most : goal.returns-clause-most
returns-clause-most g c number can =
    let value = c.in_ok-value.value in
    let low : number ≤ value = subst (IsAtLeast number) (sym c.in_ok-value.ensures) can.edge_is in
    c.entry_from.ensures.most number low can.carries can.leads
