use Rattle.std.proofs.Common.{false, sym, subst}
use Rattle.delta_forest.specs.Forest.{ForestValue}
use Rattle.delta_forest.specs.Changes.{Applies}
use Rattle.source_tree.specs.Product.{AreFinals}
use Rattle.delta_forest.specs.Settling.{forest_of}
use Rattle.delta_forest.proofs.forest.Forest.apply.Goals as goal

pub advance-requires-clause-finals : goal.advance-requires-clause-finals
advance-requires-clause-finals g c κs within =
    subst (AreFinals c.self.inside.dfa) (sym c.deref.ensures.value) c.self.invariant.finals_are

pub returns-clause-applied : goal.returns-clause-applied
returns-clause-applied g c =
    subst (λ (forest : ForestValue). Applies c.args.change forest
    (forest_of c.self.inside.dfa false c.advance.new.state)) c.self.view_is
    (c.in_ok-advance.ensures.applies c.self.inside.broken)
