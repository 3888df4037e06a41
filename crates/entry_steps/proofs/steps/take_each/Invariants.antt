use Rattle.std.proofs.Common.{◌≡◌, ◌+◌, ◌++◌, List, take}
use Rattle.rpq_base.specs.declared.data.Entry.{Entry}
use Rattle.path_witness.specs.Marks.{StandsFor}
use Rattle.entry_steps.proofs.steps.take_each.Given as goal

-- the marks took the entries so far
abbrev pub invariant-loop-entry : goal.invariant-loop-entry
invariant-loop-entry l =
    (l.marks.queries ≡ l.fn.marks.queries)
    × (l.marks.taken ≡ l.fn.marks.taken + l.entry-index)
    × ((history : List Entry) → StandsFor l.fn.marks history
    → StandsFor l.marks (history ++ take l.entry-index l.entries))
