use Rattle.join_bindings.proofs.Sharing.{some_source}
use Rattle.join_bindings.proofs.pairs.PairSet.has_source.Goals as goal

pub returns : goal.returns
returns c =
    some_source c.args.self.now c.self.inside.sources c.self.inside.targets c.args.vertex.now c.is_bare.result c.self.invariant c.self.view_is c.is_bare.ensures
