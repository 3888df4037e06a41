use Rattle.std.proofs.Common.{ap, sym, ◌∙◌}
use Rattle.delta_forest.specs.Forest.{ForestValue, kept}
use Rattle.delta_forest.proofs.Sources.{found_kept, none_kept}
use Rattle.delta_forest.proofs.forest.Forest.kept.Goals as goal

pub returns-in-Some : goal.returns-in-Some
returns-in-Some c =
    c.value_of.ensures
    ∙ (sym (found_kept c.self.inside.state.index.sources c.args.x c.in-Some.source.now
    (sym c.in-Some.ensures.source) c.args.v c.args.s)
    ∙ ap (λ (forest : ForestValue). kept forest c.args.x c.args.v c.args.s) c.self.view_is)

pub returns-in-None : goal.returns-in-None
returns-in-None c =
    sym (none_kept c.self.inside.state.index.sources c.args.x (sym c.in-None.ensures.source)
    c.args.v c.args.s)
    ∙ ap (λ (forest : ForestValue). kept forest c.args.x c.args.v c.args.s) c.self.view_is
