use Rattle.join_bindings.proofs.Rowing.{only_new}
use Rattle.join_bindings.proofs.pairs.PairSet.one.Goals as goal

pub returns : goal.returns
returns c = λ one. only_new c.new-found.result.items c.add_one.new.found.items one _ c.new-found.ensures.items (c.in_ok-add_one.ensures one)
