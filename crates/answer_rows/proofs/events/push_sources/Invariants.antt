use Rattle.std.proofs.Common.{◌≡◌, ◌++◌, map, take}
use Rattle.answer_rows.specs.Answers.{pairs}
use Rattle.answer_rows.specs.BySource.{answers}
use Rattle.answer_rows.specs.Changes.{event, without}
use Rattle.answer_rows.proofs.events.push_sources.Given as goal

-- the events of the sources so far are added
abbrev pub invariant-loop-from : goal.invariant-loop-from
invariant-loop-from l = l.events.items ≡ l.fn.events.items
    ++ map (event l.kind.query l.kind.added) (without (pairs (answers (take l.from-index l.sources))) (pairs l.others))
