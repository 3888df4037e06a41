use Rattle.std.proofs.Common.{◌≡◌, [], ◌++◌, drop}
use Rattle.source_tree.specs.Telling.{moved_ids}
use Rattle.source_tree.proofs.report.list_moved.Given as goal

-- the places so far, with those of the shifts that are left, are all
abbrev pub invariant-loop-shift : goal.invariant-loop-shift
invariant-loop-shift l = l.fn.moved.items ≡ [] →
    l.moved.items ++ moved_ids (drop l.shift-index l.shifts) ≡ moved_ids l.shifts
