use Rattle.std.proofs.Common.{◌≡◌, take}
use Rattle.shared_map.specs.Chunks.{entries_of}
use Rattle.answer_rows.specs.BySource.{answers}
use Rattle.answer_rows.specs.Listing.{listed}
use Rattle.answer_rows.proofs.rows.Rows.list.Given as goal

-- the answers of the chunks so far are listed
abbrev pub invariant-loop-chunk : goal.invariant-loop-chunk
invariant-loop-chunk l = listed l.list.items ≡ answers (entries_of (take l.chunk-index l.chunks))
