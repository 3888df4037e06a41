use Rattle.std.proofs.lemmas.Bool.{false≢true}
use Rattle.join_bindings.proofs.Extending.{at_place}
use Rattle.join_bindings.proofs.columns.Column.is_of.Goals as goal

pub returns-then-has_in : goal.returns-then-has_in
returns-then-has_in c = λ e. (
  c.atom-item.result.now,
  at_place c.args.atoms.now c.loop-atom.atom-index c.atom-item.result c.loop-atom-test.true c.atom-item.is,
  c.has_in.ensures.query c.if-has_in.true,
  c.has_in.ensures.term c.if-has_in.true,
)

pub returns : goal.returns
returns c = λ e. absurd (false≢true e)
