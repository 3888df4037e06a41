use Rattle.std.proofs.Common.{get_or, arith}
use Rattle.std.proofs.lemmas.List.Elements.{Contains-get_or}
use Rattle.dfa_table.specs.DfaValue.{step_of}
use Rattle.tree_insert.proofs.OpenTries.{step_within}
use Rattle.tree_delete.specs.Entries.{IsEntryBy}
use Rattle.tree_delete.proofs.BestEntries.{if_either, most_one_more, most_of_all}
use Rattle.tree_delete.proofs.entries.entry_by.Goals as goal

pub entry_from-requires-clause-state : goal.entry_from-requires-clause-state
entry_from-requires-clause-state g c =
    let states = c.before-states.result.now in
    let place = c.loop-before.before-index in
    ((c.before-states.ensures.before (get_or states place 0)).0
    (Contains-get_or states place 0 (omega (arith, c.loop-before-test.true)))).0

pub loop-before-preserved : goal.loop-before-preserved
loop-before-preserved g c =
    let step = step_of c.args.dfa.now in
    record {
      entry = if_either c.loop-before.best c.entry_from.result c.better-best.result
          (IsEntryBy step (g.T.PathTree.tree c.args.tree.now) c.args.id c.args.edge c.args.value)
          c.better-best.ensures.either c.loop-before.invariant.entry c.entry_from.ensures.entry;
      most = most_one_more step (g.T.PathTree.tree c.args.tree.now) c.args.id c.args.edge
          c.args.value
          c.before-states.result.now c.loop-before.best c.better-best.result
          c.loop-before.before-index c.loop-before.invariant.most c.better-best.ensures.first
          (λ number low carries leads. c.better-best.ensures.second number
          (c.entry_from.ensures.most number low carries leads));
    }

pub returns-clause-most : goal.returns-clause-most
returns-clause-most g c before number low carries leads =
    let within = step_within c.args.dfa.now before c.args.edge.label c.args.id.state leads in
    most_of_all (step_of c.args.dfa.now) (g.T.PathTree.tree c.args.tree.now) c.args.id c.args.edge
    c.args.value
    c.before-states.result.now c.loop-before.best c.loop-before.before-index before number
    c.loop-before-test.false c.loop-before.invariant.most
    ((c.before-states.ensures.before before).1 (within, leads)) low carries leads
