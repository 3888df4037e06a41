use Rattle.std.proofs.Common.{◌≡◌, ◌++◌, map, take}
use Rattle.answer_rows.specs.Changes.{event}
use Rattle.answer_rows.specs.RowChanges.{rows_without}
use Rattle.answer_rows.proofs.events.push_in.Given as goal

-- the events of the sources so far are added
abbrev pub invariant-loop-from : goal.invariant-loop-from
invariant-loop-from l = l.events.items ≡ l.fn.events.items
    ++ map (event l.kind.query l.kind.added) (rows_without (take l.from-index l.sources) l.rows l.others)
