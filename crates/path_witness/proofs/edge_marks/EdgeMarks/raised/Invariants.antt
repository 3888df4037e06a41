use Rattle.std.specs.Option.{option_map}
use Rattle.path_witness.proofs.Raising.{AreFirst}
use Rattle.path_witness.proofs.edge_marks.EdgeMarks.raised.Given as goal

-- the first queries have their marks
abbrev pub invariant-loop-number : goal.invariant-loop-number
invariant-loop-number l =
    AreFirst l.queries l.position l.tuple (option_map (λ marks. marks.now) l.before) l.number l.marks.items
