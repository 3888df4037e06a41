use Rattle.std.proofs.Common.{◌≡◌, ◌++◌, map, take}
use Rattle.answer_rows.specs.BySource.{answer}
use Rattle.answer_rows.specs.Listing.{listed}
use Rattle.answer_rows.proofs.rows.push_targets.Given as goal

-- the targets so far are added
abbrev pub invariant-loop-target : goal.invariant-loop-target
invariant-loop-target l = listed l.list.items ≡ listed l.initial.list.items ++ map (answer l.from) (take l.target-index l.row)
