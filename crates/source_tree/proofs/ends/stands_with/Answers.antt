use Rattle.std.proofs.Common.{ℕ, List, sym, subst, ◌∙◌, true≢false, arith}
use Rattle.std.specs.Prelude.{All}
use Rattle.std.proofs.lemmas.List.{take_all}
use Rattle.std.proofs.lemmas.List.Elements.{All-more}
use Rattle.delta_tree.specs.Nodes.{node_id}
use Rattle.source_tree.specs.Telling.{IsBeside}
use Rattle.source_tree.proofs.Standing.{any_here, any_nowhere}
use Rattle.source_tree.proofs.ends.stands_with.Goals as goal

pub returns-then-is_beside : goal.returns-then-is_beside
returns-then-is_beside c =
    let vertex = c.args.vertex in
    let kind : ℕ → Type 0 = λ (state : ℕ).
    IsBeside c.args.product.now.finals c.args.tree.now vertex c.args.run.now
    (node_id vertex state) in
    any_here kind c.args.states.now c.loop-state.state-index 0 c.loop-state-test.true
    (c.is_beside.ensures.0 c.if-is_beside.true)

pub loop-state-preserved : goal.loop-state-preserved
loop-state-preserved c =
    let vertex = c.args.vertex in
    All-more (λ (state : ℕ). IsBeside c.args.product.now.finals c.args.tree.now vertex
    c.args.run.now (node_id vertex state) → ⊥) c.args.states.now c.loop-state.state-index 0
    c.loop-state-test.true c.loop-state.invariant
    (λ beside. true≢false (sym (c.is_beside.ensures.1 beside) ∙ c.if-is_beside.false))

pub returns : goal.returns
returns c =
    let vertex = c.args.vertex in
    let kind : ℕ → Type 0 = λ (state : ℕ).
    IsBeside c.args.product.now.finals c.args.tree.now vertex c.args.run.now
    (node_id vertex state) in
    any_nowhere kind c.args.states.now
    (subst (λ (seen : List ℕ). All (λ (state : ℕ). kind state → ⊥) seen)
    (take_all c.loop-state.state-index c.args.states.now (omega arith)) c.loop-state.invariant)
