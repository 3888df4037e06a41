use Rattle.std.proofs.Common.{refl}
use Rattle.path_engine.proofs.LabelRows.{known_delete}
use Rattle.path_engine.proofs.ends.find_ends.Goals as goal

pub returns-in-Some-find : goal.returns-in-Some-find
returns-in-Some-find c = λ queries table.
    let vertices = c.in-Some-find.vertices in
    let numbers = c.in-Some-find.ensures.some in
    known_delete queries c.args.labels.now table c.args.names.now c.args.edge.now
    c.in-Some.numbers.now
    (record { from = vertices.from; to = vertices.to; labels = c.in-Some.numbers })
    c.in-Some.ensures.some (record { from = numbers.0; to = numbers.1; labels = refl })
