use Rattle.std.proofs.Common.{◌≡◌, ℕ, List, false, [], sym, subst}
use Rattle.std.proofs.lemmas.Result.{IfOk-weaker}
use Rattle.source_tree.specs.declared.change.Reached.{Reached}
use Rattle.source_tree.specs.Ends.{AreReached}
use Rattle.delta_forest.specs.Forest.{ForestValue}
use Rattle.delta_forest.specs.Changes.{AreReachedFrom}
use Rattle.delta_forest.proofs.Indexed.{reached_none, reached_some}
use Rattle.delta_forest.proofs.forest.Forest.reached.Goals as goal

pub returns-in_default : goal.returns-in_default
returns-in_default c =
    let state = c.self.inside.state in
    subst (λ (reached : List Reached). AreReachedFrom c.args.self.now c.args.x reached)
    (sym c.new.ensures.items)
    (subst (λ (forest : ForestValue). AreReachedFrom forest c.args.x []) c.self.view_is
    (reached_none c.self.inside.dfa state.store state.index.sources state.calls
    c.self.inside.broken state.found.touched.items state.found.log.items c.args.x
    (sym c.in_default.ensures.source)))

pub returns : goal.returns
returns c =
    let state = c.self.inside.state in
    let source = c.in-Some.source.now in
    IfOk-weaker c.reached.result
    (λ reached. AreReached c.deref.result.now source.tree reached.items)
    (λ reached. AreReachedFrom c.args.self.now c.args.x reached.items)
    (λ reached are. subst (λ (forest : ForestValue). AreReachedFrom forest c.args.x reached.items)
    c.self.view_is
    (reached_some c.self.inside.dfa c.self.inside.finals.items state.store state.calls state.index
    c.self.inside.broken state.found.touched.items state.found.log.items c.args.x
    source reached.items c.self.invariant.finals_are
    (c.self.invariant.kept
    (subst (λ (forest : ForestValue). forest.broken ≡ false) (sym c.self.view_is) c.requires))
    (sym c.in-Some.ensures.source)
    (subst (λ (finals : List ℕ). AreReached finals source.tree reached.items)
    c.deref.ensures.value are)))
    c.reached.ensures
