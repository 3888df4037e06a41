use Rattle.std.proofs.Common.{◌≤◌, ◌+◌, List, sym, subst}
use Rattle.edge_store.specs.Edges.{value_of}
use Rattle.dfa_table.specs.DfaValue.{step_of}
use Rattle.delta_tree.specs.declared.node.Try.{Try}
use Rattle.delta_tree.specs.declared.node.Shift.{Shift}
use Rattle.delta_tree.specs.Changes.{AreBelow, AreShifts, shift_ids}
use Rattle.tree_insert.specs.Trees.{HasBest}
use Rattle.tree_delete.specs.Entries.{HasEntries, count_ins}
use Rattle.tree_delete.proofs.CutTrees.{cut_ways, cut_best, cut_changes, cut_keeps, cut_counts}
use Rattle.tree_delete.proofs.Told.{ids_told, told_shifts}
use Rattle.tree_delete.proofs.calls.tree_remove_with.Goals as goal

pub returns-in_err-tries-clause-paths : goal.returns-in_err-tries-clause-paths
returns-in_err-tries-clause-paths g c =
    cut_ways c.requires.before.0 (value_of c.args.store.now) c.args.edge c.requires.before.2
    (step_of c.args.dfa.now) (g.T.PathTree.tree c.args.tree.now) (g.T.PathTree.tree c.cut.new.tree)
    c.root.ensures.tree c.requires.before.1 c.in_ok-shifts.ensures.cut c.cut.ensures.beside.0

pub relax-requires-clause-paths : goal.relax-requires-clause-paths
relax-requires-clause-paths g c =
    cut_ways c.requires.before.0 (value_of c.args.store.now) c.args.edge c.requires.before.2
    (step_of c.args.dfa.now) (g.T.PathTree.tree c.args.tree.now) (g.T.PathTree.tree c.cut.new.tree)
    c.root.ensures.tree c.requires.before.1 c.in_ok-shifts.ensures.cut c.cut.ensures.beside.0

pub relax-requires-clause-best : goal.relax-requires-clause-best
relax-requires-clause-best g c =
    let values = value_of c.args.store.now in
    let step = step_of c.args.dfa.now in
    subst (λ (tries : List Try). HasBest values step (g.T.PathTree.tree c.cut.new.tree) tries)
    (sym c.deref-2.ensures.value)
    (cut_best c.requires.before.0 values c.args.edge c.requires.before.2 step
    (g.T.PathTree.tree c.args.tree.now)
    (g.T.PathTree.tree c.cut.new.tree) c.root.ensures.tree c.requires.before.1
    c.in_ok-shifts.ensures.cut c.cut.ensures.beside.0 (shift_ids c.in_ok-shifts.shifts.items)
    c.in_ok-shifts.ensures.below
    c.in_ok-tries.tries.items
    (subst (λ (cut : List Shift). HasEntries values step (g.T.PathTree.tree c.cut.new.tree)
    (shift_ids cut)
    c.in_ok-tries.tries.items) c.deref.ensures.value c.in_ok-tries.ensures.best))

pub returns-clause-repairs : goal.returns-clause-repairs
returns-clause-repairs g c = record {
  keeps =
      cut_keeps c.requires.before.0 (value_of c.args.store.now) c.args.edge c.requires.before.2
      (step_of c.args.dfa.now) (g.T.PathTree.tree c.args.tree.now)
      (g.T.PathTree.tree c.cut.new.tree) c.root.ensures.tree c.requires.before.1
      c.in_ok-shifts.ensures.cut c.cut.ensures.beside.0 (shift_ids c.in_ok-shifts.shifts.items)
      c.in_ok-shifts.ensures.below
      (g.T.PathTree.tree c.relax.new.tree) c.relax.ensures.relaxes.later
      c.relax.ensures.relaxes.keeps c.in_ok-relax.ensures.optimal;
  steps =
      cut_counts c.requires.before.0 (value_of c.args.store.now) c.args.edge c.requires.before.2
      (step_of c.args.dfa.now) (g.T.PathTree.tree c.args.tree.now)
      (g.T.PathTree.tree c.cut.new.tree) c.root.ensures.tree c.requires.before.1
      c.in_ok-shifts.ensures.cut c.cut.ensures.beside.0 (shift_ids c.in_ok-shifts.shifts.items)
      c.in_ok-shifts.ensures.below
      (g.T.PathTree.tree c.relax.new.tree) c.relax.ensures.relaxes.later
      c.relax.ensures.relaxes.keeps c.in_ok-relax.ensures.optimal
      c.args.store.now c.args.steps.now c.cut.new.steps c.best_entries.new.steps c.relax.new.steps
      c.in_ok-shifts.ensures.counted
      (subst (λ (cut : List Shift). c.best_entries.new.steps ≤ c.cut.new.steps + count_ins
      c.args.store.now (shift_ids cut)) c.deref.ensures.value c.best_entries.ensures.counted)
      c.relax.ensures.relaxes.steps;
}

pub returns-clause-cut : goal.returns-clause-cut
returns-clause-cut g c =
    let old = c.in_ok-shifts.shifts.items in
    record {
      below =
          subst (λ (shifts : List Shift). AreBelow (g.T.PathTree.tree c.args.tree.now) c.args.edge
          (shift_ids shifts))
          (sym c.tell_values.ensures)
          (subst (AreBelow (g.T.PathTree.tree c.args.tree.now) c.args.edge)
          (sym (ids_told (g.T.PathTree.tree c.relax.new.tree) old))
          c.in_ok-shifts.ensures.below);
      are_shifts =
          subst (AreShifts (g.T.PathTree.tree c.args.tree.now) (g.T.PathTree.tree c.relax.new.tree))
          (sym c.tell_values.ensures)
          (told_shifts (g.T.PathTree.tree c.args.tree.now) (g.T.PathTree.tree c.cut.new.tree)
          (g.T.PathTree.tree c.relax.new.tree) old
          c.in_ok-shifts.ensures.shifts
          (cut_changes c.requires.before.0 (value_of c.args.store.now) c.args.edge
          c.requires.before.2
          (step_of c.args.dfa.now) (g.T.PathTree.tree c.args.tree.now)
          (g.T.PathTree.tree c.cut.new.tree) c.root.ensures.tree c.requires.before.1
          c.in_ok-shifts.ensures.cut c.cut.ensures.beside.0 (shift_ids c.in_ok-shifts.shifts.items)
          c.in_ok-shifts.ensures.below
          (g.T.PathTree.tree c.relax.new.tree) c.relax.ensures.relaxes.later
          c.relax.ensures.relaxes.keeps c.in_ok-relax.ensures.optimal));
    }
