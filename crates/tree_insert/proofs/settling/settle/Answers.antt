use Rattle.std.proofs.Common.{List, All, length, refl, ap, sym, subst, ◌∙◌, arith}
use Rattle.edge_store.specs.Edges.{value_of}
use Rattle.dfa_table.specs.DfaValue.{step_of}
use Rattle.delta_tree.specs.declared.node.Shift.{Shift}
use Rattle.delta_tree.specs.Changes.{AreShifts, shift_ids}
use Rattle.tree_insert.specs.Trees.{IsRisen}
use Rattle.tree_insert.specs.UnderWay.{IsCounted, IsReady}
use Rattle.tree_insert.proofs.UnderWay.{counted_none, counts_outs, counted_taken, open_taken, served_taken, served_none}
use Rattle.tree_insert.proofs.Shifts.{shifts_none}
use Rattle.tree_insert.proofs.Tries.{less_to_do, raised_once}
use Rattle.tree_insert.proofs.UnderWay.{puts_more}
use Rattle.tree_insert.proofs.settling.settle.Given.{Over}
use Rattle.tree_insert.proofs.settling.settle.Goals as goal
use Rattle.tree_insert.proofs.settling.settle.Goals.{After-follow}

pub loop-taken-init : goal.loop-taken-init
loop-taken-init g c = record {
  ready = c.requires.begins.ready;
  puts = omega arith;
  few = omega (arith, ap (λ (shifts : List Shift). length shifts) c.requires.begins.none);
  counted = subst (λ (shifts : List Shift). IsCounted c.args.store.now
      (g.T.PathTree.tree c.args.tree.now)
      (g.T.PathTree.tree c.args.tree.now) (shift_ids shifts) c.args.search.now.level
      c.args.steps.now c.args.steps.now)
      (sym c.requires.begins.none) (counted_none c.args.store.now (g.T.PathTree.tree
      c.args.tree.now)
      c.args.search.now.level c.args.steps.now);
  shifts = shifts_none (g.T.PathTree.tree c.args.tree.now) c.args.search.now.shifts
      c.requires.begins.none;
  beside = refl;
  served = λ served. served;
}

pub returns-clause-served : goal.returns-clause-served
returns-clause-served g c served =
    served_none (value_of c.args.store.now) (step_of c.args.dfa.now) (g.T.PathTree.tree
    c.loop-taken.tree)
    c.loop-taken.search.waiting c.in_default.ensures.none
    (c.loop-taken.invariant.served served)

pub returns-clause-risen : goal.returns-clause-risen
returns-clause-risen g c =
    subst (λ (shifts : List Shift). All (IsRisen (g.T.PathTree.tree c.args.tree.now)
    (g.T.PathTree.tree c.loop-taken.tree))
    (shift_ids shifts)) (sym c.in_default.ensures.shifts) c.loop-taken.invariant.counted.risen

pub returns-clause-shifts : goal.returns-clause-shifts
returns-clause-shifts g c =
    subst (AreShifts (g.T.PathTree.tree c.args.tree.now) (g.T.PathTree.tree c.loop-taken.tree))
    (sym c.in_default.ensures.shifts)
    c.loop-taken.invariant.shifts

pub follow-requires : goal.follow-requires
follow-requires g c = record {
  taken = record {
    can = c.loop-taken.invariant.ready.can c.in-Some.taken c.in-Some.ensures.some.there;
    level = sym c.in-Some.ensures.some.level;
  };
}

-- what can be taken after one try more
ready_more : (g : Over) (c : After-follow g) →
    IsReady (value_of c.args.store.now) c.args.dfa.now (g.T.PathTree.tree c.args.tree.now)
    (g.T.PathTree.tree c.follow.new.tree)
    c.follow.new.search.waiting
ready_more g c = c.follow.ensures.ready (g.T.PathTree.tree c.args.tree.now) (record {
  under = c.loop-taken.invariant.ready.under;
  can = open_taken (value_of c.args.store.now) c.args.dfa.now (g.T.PathTree.tree c.loop-taken.tree)
      c.loop-taken.search
      c.take.new.self c.in-Some.taken c.in-Some.ensures.some c.loop-taken.invariant.ready.can;
})

pub returns-in_err-follow-clause-tree : goal.returns-in_err-follow-clause-tree
returns-in_err-follow-clause-tree g c =
    (ready_more g (goal.at.returns-in_err-follow-clause-tree g c).After-follow).under

-- the steps before it
counted_now : (g : Over) (c : After-follow g) →
    IsCounted c.args.store.now (g.T.PathTree.tree c.args.tree.now) (g.T.PathTree.tree
    c.loop-taken.tree) (shift_ids c.take.new.self.shifts)
    c.take.new.self.level c.args.steps.now c.loop-taken.steps
counted_now g c =
    counted_taken c.args.store.now (g.T.PathTree.tree c.args.tree.now)
    (g.T.PathTree.tree c.loop-taken.tree) c.loop-taken.search
    c.take.new.self c.in-Some.taken c.args.steps.now c.loop-taken.steps
    c.in-Some.ensures.some c.loop-taken.invariant.counted

-- the steps after one try more
counted_more : (g : Over) (c : After-follow g) →
    IsCounted c.args.store.now (g.T.PathTree.tree c.args.tree.now) (g.T.PathTree.tree
    c.follow.new.tree)
    (shift_ids c.follow.new.search.shifts) c.follow.new.search.level c.args.steps.now
    c.follow.new.steps
counted_more g c =
    c.follow.ensures.counted (g.T.PathTree.tree c.args.tree.now) c.args.steps.now
    c.loop-taken.invariant.ready.under.rises
    (counted_now g c)

pub returns-in_err-follow-clause-counted : goal.returns-in_err-follow-clause-counted
returns-in_err-follow-clause-counted g c =
    counts_outs c.args.store.now (g.T.PathTree.tree c.args.tree.now) (g.T.PathTree.tree
    c.follow.new.tree)
    (shift_ids c.follow.new.search.shifts) c.follow.new.search.level c.args.steps.now
    c.follow.new.steps
    (counted_more g (goal.at.returns-in_err-follow-clause-counted g c).After-follow)

pub returns-in_err-follow-clause-risen : goal.returns-in_err-follow-clause-risen
returns-in_err-follow-clause-risen g c =
    (counted_more g (goal.at.returns-in_err-follow-clause-risen g c).After-follow).risen

pub loop-taken-preserved : goal.loop-taken-preserved
loop-taken-preserved g c = record {
  ready = ready_more g (goal.at.loop-taken-preserved g c).After-follow;
  puts = puts_more c.loop-taken.search c.take.new.self c.follow.new.search
      (g.T.PathTree.tree c.args.tree.now)
      (g.T.PathTree.tree c.loop-taken.tree) (g.T.PathTree.tree c.follow.new.tree)
      c.in-Some.ensures.some.shifts
      c.in_ok-follow.ensures.raises c.follow.ensures.puts c.loop-taken.invariant.puts;
  few = c.fits.ensures.shifts;
  counted = counted_more g (goal.at.loop-taken-preserved g c).After-follow;
  shifts = c.in_ok-follow.ensures.shifts (g.T.PathTree.tree c.args.tree.now) (counted_now g
      (goal.at.loop-taken-preserved g c).After-follow).firm
      (subst (AreShifts (g.T.PathTree.tree c.args.tree.now) (g.T.PathTree.tree c.loop-taken.tree))
      (sym c.in-Some.ensures.some.shifts)
      c.loop-taken.invariant.shifts);
  beside = c.follow.ensures.beside ∙ c.loop-taken.invariant.beside;
  served = λ served. c.in_ok-follow.ensures.served
      (served_taken (value_of c.args.store.now) (step_of c.args.dfa.now)
      (g.T.PathTree.tree c.loop-taken.tree)
      c.loop-taken.search c.take.new.self c.in-Some.taken c.in-Some.ensures.some
      (c.loop-taken.invariant.served served));
}

pub loop-taken-smaller : goal.loop-taken-smaller
loop-taken-smaller g c =
    less_to_do c.loop-taken.search c.take.new.self c.follow.new.search
    c.in-Some.ensures.some.shifts c.in-Some.ensures.fewer
    (raised_once c.take.new.self c.follow.new.search (g.T.PathTree.tree c.loop-taken.tree)
    (g.T.PathTree.tree c.follow.new.tree)
    c.in_ok-follow.ensures.raises)
    c.fits.ensures.shifts c.fits.ensures.waiting
