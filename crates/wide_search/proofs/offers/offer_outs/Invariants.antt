use Rattle.std.proofs.Common.{◌+◌, ◌-◌, ◌≤◌, length}
use Rattle.edge_store.specs.Edges.{outs_of}
use Rattle.wide_search.specs.Batches.{Gains}
use Rattle.wide_search.specs.Spans.{IsOfSpan}
use Rattle.wide_search.proofs.Spans.{AreOfferedUpTo}
use Rattle.wide_search.proofs.offers.offer_outs.Given as goal

abbrev pub invariant-loop-k : goal.invariant-loop-k
invariant-loop-k g l = record {
  gains : Gains l.initial.batches l.batches (IsOfSpan l.graph l.span);
  offered : AreOfferedUpTo l.graph l.span l.batches.waiting
      (outs_of l.graph.store.now l.span.id.vertex) l.k;
  within : l.k ≤ length (outs_of l.graph.store.now l.span.id.vertex);
  count : l.steps ≤ l.initial.steps + l.k;
}

abbrev pub decreases-loop-k : goal.decreases-loop-k
decreases-loop-k g l = length (outs_of l.graph.store.now l.span.id.vertex) - l.k
