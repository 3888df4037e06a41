use Rattle.join_bindings.specs.Partial.{atoms_at}
use Rattle.join_bindings.proofs.Sharing.{is_narrow}
use Rattle.join_bindings.proofs.overlap.narrower.Goals as goal

pub returns-then-is_narrower : goal.returns-then-is_narrower
returns-then-is_narrower c = λ sets is was.
    is_narrow sets (atoms_at c.args.atoms.now) c.args.term.now c.args.overlap.now c.list.result.now c.list.ensures is
    (c.is_narrower.ensures.first c.if-is_narrower.true) (c.is_narrower.ensures.second c.if-is_narrower.true)

pub returns-else-is_narrower : goal.returns-else-is_narrower
returns-else-is_narrower c = λ sets is was. was
