use Rattle.std.proofs.Common.{◌≡◌, ◌++◌, take}
use Rattle.std.specs.Prelude.{flat_map}
use Rattle.shared_map.specs.Chunks.{entries_of}
use Rattle.answer_rows.specs.Answers.{sources_of}
use Rattle.answer_rows.specs.BySource.{answers}
use Rattle.answer_rows.specs.Listing.{source_line}
use Rattle.answer_rows.proofs.rows.Rows.push_sources.Given as goal

-- the sources of the chunks so far are written
abbrev pub invariant-loop-chunk : goal.invariant-loop-chunk
invariant-loop-chunk l = l.text.items
    ≡ l.initial.text.items ++ flat_map source_line (sources_of (answers (entries_of (take l.chunk-index l.chunk-items))) l.to)
