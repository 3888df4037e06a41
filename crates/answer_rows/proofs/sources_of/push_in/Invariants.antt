use Rattle.std.proofs.Common.{◌≡◌, ◌++◌, take}
use Rattle.std.specs.Prelude.{flat_map}
use Rattle.answer_rows.specs.Answers.{sources_of}
use Rattle.answer_rows.specs.BySource.{answers}
use Rattle.answer_rows.specs.Listing.{source_line}
use Rattle.answer_rows.proofs.sources_of.push_in.Given as goal

-- the sources so far are written
abbrev pub invariant-loop-from : goal.invariant-loop-from
invariant-loop-from l = l.text.items
    ≡ l.initial.text.items ++ flat_map source_line (sources_of (answers (take l.from-index l.sources)) l.to)
