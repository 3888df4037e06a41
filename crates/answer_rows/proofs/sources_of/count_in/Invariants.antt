use Rattle.std.proofs.Common.{◌≡◌, ◌≤◌, length, take}
use Rattle.answer_rows.specs.Answers.{sources_of}
use Rattle.answer_rows.specs.BySource.{answers}
use Rattle.answer_rows.proofs.sources_of.count_in.Given as goal

-- the sources so far are counted
abbrev pub invariant-loop-row : goal.invariant-loop-row
invariant-loop-row l =
    (l.count ≡ length (sources_of (answers (take l.row-index l.sources)) l.to)) × (l.count ≤ l.row-index)
