use Rattle.std.proofs.Common.{◌≡◌, ◌≤◌, ◌*◌, length, take}
use Rattle.shared_map.specs.Chunks.{entries_of}
use Rattle.answer_rows.specs.Answers.{sources_of}
use Rattle.answer_rows.specs.BySource.{answers}
use Rattle.answer_rows.proofs.rows.Rows.count_sources.Given as goal

-- the sources of the chunks so far are counted, of each fewer than 2^64
abbrev pub invariant-loop-chunk : goal.invariant-loop-chunk
invariant-loop-chunk l =
    (l.count ≡ length (sources_of (answers (entries_of (take l.chunk-index l.chunk-items))) l.to))
    × (l.count ≤ l.chunk-index * 18446744073709551616)
