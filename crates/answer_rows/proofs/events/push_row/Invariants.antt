use Rattle.std.proofs.Common.{◌≡◌, ◌++◌, map, take}
use Rattle.answer_rows.specs.Changes.{event}
use Rattle.answer_rows.specs.RowChanges.{row_without}
use Rattle.answer_rows.proofs.events.push_row.Given as goal

-- the events of the targets so far are added
abbrev pub invariant-loop-target : goal.invariant-loop-target
invariant-loop-target l = l.events.items ≡ l.fn.events.items
    ++ map (event l.kind.query l.kind.added) (row_without l.from (take l.target-index l.targets) l.others)
