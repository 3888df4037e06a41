use Rattle.std.proofs.Common.{◌≡◌, ◌++◌, drop}
use Rattle.generated_run.proofs.Lines.{said_of}
use Rattle.generated_run.proofs.summary.push_said.Given as goal

-- with the lines of the objects that are left, all lines are there
abbrev pub invariant-loop-object : goal.invariant-loop-object
invariant-loop-object g l =
    l.text.items ++ said_of g.O.Standing.seen (drop l.object-index l.objects)
    ≡ l.initial.text.items ++ said_of g.O.Standing.seen l.objects
