use Rattle.std.proofs.Common.{ℕ, sym, Contains}
use Rattle.std.proofs.lemmas.Result.{on_ok_weaker}
use Rattle.edge_store.specs.Edges.{value_of}
use Rattle.tree_insert.specs.UnderWay.{IsBy, IsOpen, IsServedBy}
use Rattle.tree_insert.proofs.Bests.{below_some}
use Rattle.tree_insert.proofs.UnderWay.{gains_kind, gains_twice}
use Rattle.tree_insert.proofs.OpenTries.{open_of_by, served_by_more, served_by_all}
use Rattle.tree_insert.proofs.offers.offer_edge.Goals as goal

pub returns-clause-gains : goal.returns-clause-gains
returns-clause-gains g c =
    let values = value_of c.args.store.now in
    let by = IsBy c.args.dfa.now (g.T.PathTree.tree c.args.tree.now) c.args.edge c.in-Some.value in
    gains_kind c.args.search.now c.offer_from_states.new.search by
    (IsOpen values c.args.dfa.now (g.T.PathTree.tree c.args.tree.now))
    (gains_twice c.args.search.now c.offer_from_root.new.search c.offer_from_states.new.search by
    c.offer_from_root.ensures.gains c.offer_from_states.ensures.gains)
    (λ each is. open_of_by values c.args.dfa.now (g.T.PathTree.tree c.args.tree.now) c.args.edge
    c.in-Some.value
    each (sym c.in-Some.ensures) is)

pub returns-clause-served : goal.returns-clause-served
returns-clause-served g c =
    let waits = c.offer_from_states.new.search.waiting in
    on_ok_weaker c.offer_from_states.result
    (λ (listed : (before : ℕ) → Contains c.args.states.now before →
    IsServedBy c.args.dfa.now (g.T.PathTree.tree c.args.tree.now) waits c.args.edge c.in-Some.value
    before).
    λ before number state reached carries leads.
    served_by_all c.args.dfa.now (g.T.PathTree.tree c.args.tree.now) waits c.args.edge
    c.in-Some.value
    c.args.states.now c.requires.covers
    (λ here. served_by_more c.args.dfa.now (g.T.PathTree.tree c.args.tree.now)
    c.offer_from_root.new.search.waiting
    waits c.args.edge c.in-Some.value 0 c.offer_from_states.ensures.gains.kept
    (c.in_ok-offer_from_root.ensures.served here))
    listed before number state
    (below_some (value_of c.args.store.now c.args.edge) number c.in-Some.value reached
    (sym c.in-Some.ensures)) carries leads)
    c.offer_from_states.ensures.served
