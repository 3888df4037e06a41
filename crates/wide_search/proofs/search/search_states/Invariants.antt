use Rattle.std.proofs.Common.{drop}
use Rattle.place_table.specs.Table.{TableValue, tree_in}
use Rattle.wide_search.specs.Counts.{CountsWide}
use Rattle.wide_search.specs.Lifts.{ReportsLifts}
use Rattle.wide_search.specs.Ready.{AreSearched}
use Rattle.wide_search.proofs.search.search_states.Given as goal

abbrev pub invariant-loop-place : goal.invariant-loop-place
invariant-loop-place g l = record {
  searched : AreSearched l.graph (drop l.place l.graph.pending.now) l.fn.table l.table;
  lifts : (first : TableValue) → ReportsLifts first l.fn.table l.fn.room.lifts.items →
      ReportsLifts first l.table l.room.lifts.items;
  counted : CountsWide l.graph.store.now (tree_in l.fn.table) (tree_in l.table) l.place l.fn.steps
      l.steps;
}
