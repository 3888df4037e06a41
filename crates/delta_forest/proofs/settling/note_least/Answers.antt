use Rattle.delta_forest.proofs.Holding.{due_noted}
use Rattle.delta_forest.proofs.settling.note_least.Goals as goal

pub returns-in_ok-note-in-Some-clause-due : goal.returns-in_ok-note-in-Some-clause-due
returns-in_ok-note-in-Some-clause-due c =
    due_noted c.args.dues.now c.note.new.self c.args.root c.in-Some.least c.args.source.now.tree
    c.in_ok-note-in-Some.ensures.noted c.in-Some.ensures.floor
