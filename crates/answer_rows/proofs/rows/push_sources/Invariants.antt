use Rattle.std.proofs.Common.{◌≡◌, ◌++◌, take}
use Rattle.answer_rows.specs.BySource.{answers}
use Rattle.answer_rows.specs.Listing.{listed}
use Rattle.answer_rows.proofs.rows.push_sources.Given as goal

-- the answers of the sources so far are added
abbrev pub invariant-loop-from : goal.invariant-loop-from
invariant-loop-from l = listed l.list.items ≡ listed l.initial.list.items ++ answers (take l.from-index l.sources)
