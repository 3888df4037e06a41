use Rattle.std.proofs.Common.{◌≢◌, ℕ, List, [], subst, sym, Contains}
use Rattle.source_index.specs.Vertex.{RootsByState, roots_in}
use Rattle.source_index.specs.VertexStorage.{many_of, states_of}
use Rattle.source_index.proofs.Beside.{has_roots}
use Rattle.source_index.proofs.vertex.VertexRoots.states.Goals as goal

pub returns-clause-exact : goal.returns-clause-exact
returns-clause-exact c state =
    let kept = c.self.inside.kept in
    let exact = has_roots (states_of kept) (many_of kept) c.self.invariant state in (
      (λ there. subst (λ (all : RootsByState). roots_in all state ≢ []) c.self.view_is
          (exact.0 (subst (λ (all : List ℕ). Contains all state) c.states_of.ensures there))),
      (λ some. subst (λ (all : List ℕ). Contains all state) (sym c.states_of.ensures)
          (exact.1 (subst (λ (all : RootsByState). roots_in all state ≢ []) (sym c.self.view_is)
          some))),
    )
