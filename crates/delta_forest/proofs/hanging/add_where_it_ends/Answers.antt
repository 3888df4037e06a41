use Rattle.std.proofs.Common.{◌≡◌, ℕ, ◌+◌, ◌<◌, List, length, take, get_or, subst, Contains, arith}
use Rattle.std.proofs.lemmas.List.{get_or_default, take_all}
use Rattle.rpq_base.proofs.Members.{next_one}
use Rattle.delta_tree.specs.Nodes.{node_id}
use Rattle.delta_forest.specs.Candidates.{Adds, IsHungBy, IsRemovedAt}
use Rattle.delta_forest.proofs.Gathering.{adds_both, adds_like, at_some_state, next_state}
use Rattle.delta_forest.proofs.hanging.add_where_it_ends.Goals as goal

pub loop-state-preserved : goal.loop-state-preserved
loop-state-preserved c =
    let items = c.states_at-state-items.result.now in
    let place = c.loop-state.state-index in
    let state : ℕ = get_or items place 0 in
    let within : place < length items = omega (arith, c.loop-state-test.true) in
    let is : state ≡ get_or items place state = get_or_default items place 0 state within in
    let to = c.args.edge.to in
    let kind : ℕ → ℕ → Type 0 = λ at.
    IsHungBy c.args.sources.now c.args.holders.now c.args.edge (node_id to at) (node_id to at) in
    adds_both c.args.roots.now.items c.loop-state.roots.items c.add_hung.new.roots.items
    (λ root. (at : ℕ) × Contains (take place items) at × kind at root) (kind state)
    (λ root. (at : ℕ) × Contains (take (place + 1) items) at × kind at root)
    c.loop-state.invariant c.in_ok-add_hung.ensures
    (next_state (take place items) (take (place + 1) items) state kind
    (next_one items place state within is))

pub returns : goal.returns
returns c =
    let items = c.states_at-state-items.result.now in
    let to = c.args.edge.to in
    let kind : ℕ → ℕ → Type 0 = λ at.
    IsHungBy c.args.sources.now c.args.holders.now c.args.edge (node_id to at) (node_id to at) in
    adds_like c.args.roots.now.items c.loop-state.roots.items
    (λ root. (at : ℕ) × Contains items at × kind at root)
    (IsRemovedAt c.args.sources.now c.args.holders.now c.args.edge)
    (subst (λ (states : List ℕ). Adds c.args.roots.now.items c.loop-state.roots.items
    (λ root. (at : ℕ) × Contains states at × kind at root))
    (take_all c.loop-state.state-index items (omega (arith, c.loop-state-test.false)))
    c.loop-state.invariant)
    (at_some_state c.args.holders.now to items kind
    c.states_at-state-items.ensures.exact (λ state root hung. hung.0))
