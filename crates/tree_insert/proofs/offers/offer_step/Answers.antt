use Rattle.std.proofs.Common.{◌≡◌, ℕ, ◌≤◌, ◌∙◌, subst, sym}
use Rattle.std.proofs.lemmas.Option.{same_Some}
use Rattle.std.proofs.lemmas.Result.{on_ok_weaker}
use Rattle.delta_tree.specs.Nodes.{node_id}
use Rattle.delta_tree.specs.Changes.{Carries}
use Rattle.tree_insert.specs.UnderWay.{IsBetween, IsBy, IsServed}
use Rattle.tree_insert.proofs.UnderWay.{gains_kind}
use Rattle.tree_insert.proofs.OpenTries.{by_of_between}
use Rattle.tree_insert.proofs.offers.offer_step.Goals as goal

pub returns-clause-gains : goal.returns-clause-gains
returns-clause-gains g c =
    gains_kind c.args.search.now c.offer_between.new.search
    (IsBetween (g.T.PathTree.tree c.args.tree.now) c.args.before c.args.edge c.args.value
    c.in-Some.state)
    (IsBy c.args.dfa.now (g.T.PathTree.tree c.args.tree.now) c.args.edge c.args.value)
    c.offer_between.ensures.gains
    (λ each is. by_of_between c.args.dfa.now (g.T.PathTree.tree c.args.tree.now) c.args.before
    c.args.edge c.args.value
    c.in-Some.state each (sym c.in-Some.ensures.step)
    c.in-Some.ensures.within.0 c.in-Some.ensures.within.1 is)

pub returns-clause-served : goal.returns-clause-served
returns-clause-served g c =
    on_ok_weaker c.offer_between.result
    (λ (served : (number : ℕ) → number ≤ c.args.value →
    Carries (g.T.PathTree.tree c.args.tree.now) (node_id c.args.edge.from c.args.before) number →
    IsServed (g.T.PathTree.tree c.args.tree.now) c.offer_between.new.search.waiting
    (node_id c.args.edge.to c.in-Some.state) number).
    λ number state below carries leads.
    let same : c.in-Some.state ≡ state =
    same_Some c.in-Some.state state (c.in-Some.ensures.step ∙ leads) in
    subst (λ (s : ℕ). IsServed (g.T.PathTree.tree c.args.tree.now)
    c.offer_between.new.search.waiting
    (node_id c.args.edge.to s) number) same (served number below carries))
    c.offer_between.ensures.served
