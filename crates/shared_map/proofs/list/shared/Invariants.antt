use Rattle.std.proofs.Common.{◌≡◌, take}
use Rattle.shared_map.specs.Chunks.{entries_of}
use Rattle.shared_map.proofs.list.shared.Given as goal

-- the entries of the chunks so far are those that are shared
abbrev pub invariant-loop-chunk : goal.invariant-loop-chunk
invariant-loop-chunk g l = entries_of l.shared.items ≡ entries_of (take l.chunk-index l.chunks)
