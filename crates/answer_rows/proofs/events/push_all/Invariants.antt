use Rattle.std.proofs.Common.{◌≡◌, ◌++◌, map, take}
use Rattle.shared_map.specs.Chunks.{entries_of}
use Rattle.answer_rows.specs.Answers.{pairs}
use Rattle.answer_rows.specs.BySource.{answers}
use Rattle.answer_rows.specs.Changes.{event, without}
use Rattle.answer_rows.proofs.events.push_all.Given as goal

-- the events of the chunks so far are added
abbrev pub invariant-loop-chunk : goal.invariant-loop-chunk
invariant-loop-chunk l = l.events.items ≡ l.fn.events.items
    ++ map (event l.kind.query l.kind.added)
    (without (pairs (answers (entries_of (take l.chunk-index l.chunks)))) (pairs l.others))
