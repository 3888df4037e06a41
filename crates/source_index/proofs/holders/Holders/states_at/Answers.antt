use Rattle.std.proofs.Common.{◌≡◌, ◌≢◌, [], sym, ap, subst, ◌∙◌, arith}
use Rattle.std.specs.Option.{unwrap_or}
use Rattle.source_index.specs.Holders.{HoldersValue, vertex_at}
use Rattle.source_index.specs.Vertex.{RootsByState, roots_in}
use Rattle.source_index.proofs.holders.Holders.states_at.Goals as goal

pub returns-in-Some-clause-exact : goal.returns-in-Some-clause-exact
returns-in-Some-clause-exact c state =
    let is : c.in-Some.places.now ≡ vertex_at c.args.self.now c.args.vertex =
    ap (λ found. unwrap_or found []) c.in-Some.ensures.value
    ∙ ap (λ (holders : HoldersValue). vertex_at holders c.args.vertex) c.self.view_is in
    let exact = c.states.ensures.exact state in (
      (λ there. subst (λ (all : RootsByState). roots_in all state ≢ []) is (exact.0 there)),
      (λ some. exact.1 (subst (λ (all : RootsByState). roots_in all state ≢ []) (sym is) some)),
    )

pub returns-in-None-clause-exact : goal.returns-in-None-clause-exact
returns-in-None-clause-exact c state =
    let bare : vertex_at c.args.self.now c.args.vertex ≡ [] =
    sym (ap (λ (holders : HoldersValue). vertex_at holders c.args.vertex) c.self.view_is)
    ∙ sym (ap (λ found. unwrap_or found []) c.in-None.ensures.value) in (
      (λ there. absurd (omega (arith, there.1))),
      (λ some. absurd (some (ap (λ (all : RootsByState). roots_in all state) bare))),
    )
