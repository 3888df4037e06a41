use Rattle.std.proofs.Common.{◌≡◌, ℕ, ◌+◌, ◌<◌, List, length, take, get_or, subst, ◌∙◌, Contains, arith}
use Rattle.std.proofs.lemmas.List.{get_or_default, take_all}
use Rattle.rpq_base.proofs.Members.{next_one}
use Rattle.delta_forest.specs.Candidates.{Adds, IsHungAt}
use Rattle.delta_forest.proofs.Gathering.{adds_both, next_hung}
use Rattle.delta_forest.proofs.hanging.add_hung.Goals as goal

pub loop-root-preserved : goal.loop-root-preserved
loop-root-preserved c =
    let items = c.at-root-items.result.now in
    let place = c.loop-root.root-index in
    let root : ℕ = get_or items place 0 in
    let within : place < length items = omega (arith, c.loop-root-test.true) in
    let is : root ≡ get_or items place root = get_or_default items place 0 root within in
    let kind : ℕ → Type 0 = IsHungAt c.args.sources.now c.args.edge c.args.id in
    adds_both c.args.roots.now.items c.loop-root.roots.items c.add_if_hung.new.roots.items
    (λ each. Contains (take place items) each × kind each) (λ each. (each ≡ root) × kind each)
    (λ each. Contains (take (place + 1) items) each × kind each)
    c.loop-root.invariant c.in_ok-add_if_hung.ensures
    (next_hung (take place items) (take (place + 1) items) root kind
    (next_one items place root within is))

pub returns : goal.returns
returns c =
    let items = c.at-root-items.result.now in
    let kind : ℕ → Type 0 = IsHungAt c.args.sources.now c.args.edge c.args.id in
    subst (λ (held : List ℕ). Adds c.args.roots.now.items c.loop-root.roots.items
    (λ each. Contains held each × kind each))
    (take_all c.loop-root.root-index items (omega (arith, c.loop-root-test.false))
    ∙ c.at-root-items.ensures.roots)
    c.loop-root.invariant
