use Rattle.std.proofs.Common.{◌≡◌, ℕ, ◌+◌, ◌<◌, List, length, take, get_or, subst, Contains, arith}
use Rattle.std.proofs.lemmas.List.{get_or_default, take_all}
use Rattle.rpq_base.proofs.Members.{next_one}
use Rattle.dfa_table.specs.DfaValue.{step_of}
use Rattle.delta_forest.specs.Candidates.{Adds, IsHungOver, IsHungRoot, IsRemovedFrom}
use Rattle.delta_forest.proofs.Gathering.{adds_both, adds_like, at_some_state, next_state}
use Rattle.delta_forest.proofs.hanging.add_where_it_leaves.Goals as goal

pub loop-state-preserved : goal.loop-state-preserved
loop-state-preserved c =
    let items = c.states_at-state-items.result.now in
    let place = c.loop-state.state-index in
    let state : ℕ = get_or items place 0 in
    let within : place < length items = omega (arith, c.loop-state-test.true) in
    let is : state ≡ get_or items place state = get_or_default items place 0 state within in
    let kind : ℕ → ℕ → Type 0 =
    IsHungOver c.args.sources.now c.args.holders.now (step_of c.args.dfa.now) c.args.edge in
    adds_both c.add_hung_root.new.roots.items c.loop-state.roots.items
    c.add_hung_over.new.roots.items
    (λ root. (at : ℕ) × Contains (take place items) at × kind at root) (kind state)
    (λ root. (at : ℕ) × Contains (take (place + 1) items) at × kind at root)
    c.loop-state.invariant c.in_ok-add_hung_over.ensures
    (next_state (take place items) (take (place + 1) items) state kind
    (next_one items place state within is))

pub returns : goal.returns
returns c =
    let items = c.states_at-state-items.result.now in
    let step = step_of c.args.dfa.now in
    let start = c.add_hung_root.new.roots.items in
    let kind : ℕ → ℕ → Type 0 =
    IsHungOver c.args.sources.now c.args.holders.now step c.args.edge in
    let held : ℕ → Type 0 = λ root. (at : ℕ) × kind at root in
    adds_both c.args.roots.now.items start c.loop-state.roots.items
    (IsHungRoot c.args.sources.now step c.args.edge) held
    (IsRemovedFrom c.args.sources.now c.args.holders.now step c.args.edge)
    c.in_ok-add_hung_root.ensures
    (adds_like start c.loop-state.roots.items
    (λ root. (at : ℕ) × Contains items at × kind at root) held
    (subst (λ (states : List ℕ). Adds start c.loop-state.roots.items
    (λ root. (at : ℕ) × Contains states at × kind at root))
    (take_all c.loop-state.state-index items (omega (arith, c.loop-state-test.false)))
    c.loop-state.invariant)
    (at_some_state c.args.holders.now c.args.edge.from items kind
    c.states_at-state-items.ensures.exact (λ state root hung. hung.0)))
    (λ root. ((λ either. either), (λ either. either)))
