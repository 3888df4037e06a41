use Rattle.std.proofs.Common.{◌≡◌, ℕ, ◌≤◌, subst, sym}
use Rattle.std.proofs.lemmas.Result.{on_ok_weaker}
use Rattle.edge_store.specs.Edges.{value_of}
use Rattle.delta_tree.specs.declared.node.NodeId.{NodeId}
use Rattle.delta_tree.specs.Nodes.{node_id}
use Rattle.delta_tree.specs.Changes.{Carries}
use Rattle.tree_insert.specs.UnderWay.{IsBetween, IsOfTry, IsServed}
use Rattle.tree_insert.proofs.Bests.{below_some}
use Rattle.tree_insert.proofs.UnderWay.{gains_kind}
use Rattle.tree_insert.proofs.OpenTries.{try_of_between}
use Rattle.tree_insert.proofs.offers.offer_try.Goals as goal

pub returns-clause-gains : goal.returns-clause-gains
returns-clause-gains g c =
    gains_kind c.args.search.now c.offer_between.new.search
    (IsBetween (g.T.PathTree.tree c.args.tree.now) c.args.step.from.state c.args.step.edge
    c.in-Some.value
    c.args.step.to.state)
    (IsOfTry (value_of c.args.store.now) (g.T.PathTree.tree c.args.tree.now) c.args.step)
    c.offer_between.ensures.gains
    (λ each is. try_of_between (value_of c.args.store.now) (g.T.PathTree.tree c.args.tree.now)
    c.args.step
    c.in-Some.value each (sym c.in-Some.ensures) is)

pub returns-clause-served : goal.returns-clause-served
returns-clause-served g c =
    let edge = c.args.step.edge in
    on_ok_weaker c.offer_between.result
    (λ (served : (number : ℕ) → number ≤ c.in-Some.value →
    Carries (g.T.PathTree.tree c.args.tree.now) (node_id edge.from c.args.step.from.state) number →
    IsServed (g.T.PathTree.tree c.args.tree.now) c.offer_between.new.search.waiting
    (node_id edge.to c.args.step.to.state) number).
    λ joins number gives.
    let from : node_id edge.from c.args.step.from.state ≡ c.args.step.from =
    λ i. record { vertex = joins.leaves i; state = c.args.step.from.state } in
    let to : node_id edge.to c.args.step.to.state ≡ c.args.step.to =
    λ i. record { vertex = joins.ends i; state = c.args.step.to.state } in
    subst (λ (id : NodeId). IsServed (g.T.PathTree.tree c.args.tree.now)
    c.offer_between.new.search.waiting id number)
    to
    (served number
    (below_some (value_of c.args.store.now edge) number c.in-Some.value gives.edge
    (sym c.in-Some.ensures))
    (subst (λ (id : NodeId). Carries (g.T.PathTree.tree c.args.tree.now) id number) (sym from)
    gives.from)))
    c.offer_between.ensures.served
