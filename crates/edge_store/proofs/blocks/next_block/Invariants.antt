use Rattle.std.proofs.Common.{ℕ, ◌<◌, ◌≤◌, ◌-◌, max, length, slice_index}
use Rattle.edge_store.proofs.blocks.next_block.Given as goal

-- no bound so far is above the number
abbrev pub invariant-loop-next : goal.invariant-loop-next
invariant-loop-next l = record {
  within : l.next ≤ max l.block (length l.bounds);
  skipped : (each : ℕ) → l.block ≤ each → each < l.next → slice_index l.bounds each ≤ l.number;
}

abbrev pub decreases-loop-next : goal.decreases-loop-next
decreases-loop-next l = length l.bounds - l.next
