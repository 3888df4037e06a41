use Rattle.std.proofs.Common.{ℕ, length}
use Rattle.place_table.specs.Table.{TableValue, tree_in}
use Rattle.wide_search.specs.Counts.{CountsPlaces}
use Rattle.wide_search.specs.Lifts.{ReportsLifts}
use Rattle.wide_search.specs.Ready.{IsUnderWay, Start}
use Rattle.wide_search.proofs.Batches.{to_do}
use Rattle.wide_search.proofs.settling.settle.Given as goal

abbrev pub invariant-loop-taken : goal.invariant-loop-taken
invariant-loop-taken g l = record {
  ready : (start : Start) →
      IsUnderWay l.graph start l.fn.table l.fn.room.gains.items l.fn.room.batches.waiting
      l.fn.room.batches.level →
      IsUnderWay l.graph start l.table l.room.gains.items l.room.batches.waiting
      l.room.batches.level;
  lifts : (first : TableValue) → ReportsLifts first l.fn.table l.fn.room.lifts.items →
      ReportsLifts first l.table l.room.lifts.items;
  counted : (start : Start) (begin : ℕ) →
      IsUnderWay l.graph start l.fn.table l.fn.room.gains.items l.fn.room.batches.waiting
      l.fn.room.batches.level →
      CountsPlaces l.graph.store.now start.trees (tree_in l.fn.table) begin l.fn.steps →
      CountsPlaces l.graph.store.now start.trees (tree_in l.table) begin l.steps;
}

abbrev pub decreases-loop-taken : goal.decreases-loop-taken
decreases-loop-taken g l = to_do (length l.room.gains.items) (length l.room.batches.waiting)
