use Rattle.std.proofs.Common.{◌<◌, ◌≤◌, ◌-◌, length, take, drop}
use Rattle.shared_map.specs.Chunks.{entries_of, IsAbove, IsBelow}
use Rattle.shared_map.proofs.list.chunk_of.Given as goal

-- the key is above all before the one bound, and below all from the other on
abbrev pub invariant-loop-high : goal.invariant-loop-high
invariant-loop-high g l = (l.low ≤ l.high) × (l.high ≤ length l.chunks)
    × (0 < length l.chunks → l.low < l.high)
    × IsAbove g.K.Ord.cmp l.key (entries_of (take l.low l.chunks))
    × IsBelow g.K.Ord.cmp l.key (entries_of (drop l.high l.chunks))

abbrev pub decreases-loop-high : goal.decreases-loop-high
decreases-loop-high g l = l.high - l.low
