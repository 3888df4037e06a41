use Rattle.std.proofs.Common.{◌≡◌, Option, None, Vec, Global, false, refl, sym, subst}
use Rattle.std.specs.Prelude.{◌↔◌, IfSome}
use Rattle.std.proofs.lemmas.Result.{IfOk-weaker}
use Rattle.edge_store.specs.declared.edge.EdgeId.{EdgeId}
use Rattle.delta_tree.specs.Nodes.{node_id, node_of}
use Rattle.delta_tree.specs.Paths.{IsPathTo}
use Rattle.delta_forest.specs.Forest.{ForestValue, kept}
use Rattle.delta_forest.specs.Paths.{IsBestPath}
use Rattle.delta_forest.proofs.BestPaths.{both_ok, none_found, path_found, path_none}
use Rattle.delta_forest.proofs.forest.Forest.path.Goals as goal

pub returns-in-Some-clause-none : goal.returns-in-Some-clause-none
returns-in-Some-clause-none c =
    let state = c.self.inside.state in
    let source = c.in-Some.source.now in
    let place = node_id c.args.v c.args.s in
    IfOk-weaker c.path_to.result
    (λ found. (found ≡ None) ↔ (node_of source.tree place ≡ None))
    (λ found. (found ≡ None) ↔ (kept c.args.self.now c.args.x c.args.v c.args.s ≡ None))
    (λ found is. subst (λ (forest : ForestValue).
    (found ≡ None) ↔ (kept forest c.args.x c.args.v c.args.s ≡ None)) c.self.view_is
    (none_found c.self.inside.dfa state.store state.calls state.index c.self.inside.broken
    state.found.touched.items state.found.log.items c.args.x c.args.v c.args.s source
    (sym c.in-Some.ensures.source) found is))
    c.path_to.ensures.none

pub returns-in-Some-clause-path : goal.returns-in-Some-clause-path
returns-in-Some-clause-path c =
    let state = c.self.inside.state in
    let source = c.in-Some.source.now in
    let place = node_id c.args.v c.args.s in
    both_ok c.path_to.result
    (λ found. (found ≡ None) ↔ (node_of source.tree place ≡ None))
    (λ found. IfSome found (λ path. IsPathTo source.tree place path.items))
    (λ found. IfSome found (λ path.
    IsBestPath c.args.self.now c.args.x c.args.v c.args.s path.items))
    (λ found is leads. subst (λ (forest : ForestValue). IfSome found (λ path.
    IsBestPath forest c.args.x c.args.v c.args.s path.items)) c.self.view_is
    (path_found c.self.inside.dfa state.store state.calls state.index c.self.inside.broken
    state.found.touched.items state.found.log.items c.args.x c.args.v c.args.s source
    (sym c.in-Some.ensures.source)
    (c.self.invariant.kept
    (subst (λ (forest : ForestValue). forest.broken ≡ false) (sym c.self.view_is) c.requires))
    found is leads))
    c.path_to.ensures.none c.path_to.ensures.path

pub returns-in-None-clause-none : goal.returns-in-None-clause-none
returns-in-None-clause-none c =
    let state = c.self.inside.state in
    let nothing : Option (Vec EdgeId Global) = None in
    subst (λ (forest : ForestValue).
    (nothing ≡ None) ↔ (kept forest c.args.x c.args.v c.args.s ≡ None)) c.self.view_is
    (path_none c.self.inside.dfa state.store state.calls state.index c.self.inside.broken
    state.found.touched.items state.found.log.items c.args.x c.args.v c.args.s
    (sym c.in-None.ensures.source) nothing refl)
