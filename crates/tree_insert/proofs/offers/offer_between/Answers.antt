use Rattle.std.proofs.Common.{◌≡◌, ◌≤◌, ◌<◌, ◌^◌, refl, sym, subst, arith}
use Rattle.std.proofs.lemmas.Result.{on_ok_weaker}
use Rattle.delta_tree.specs.Nodes.{node_id}
use Rattle.tree_insert.specs.declared.waiting.Waiting.{Waiting}
use Rattle.tree_insert.specs.UnderWay.{IsBetween, IsServed}
use Rattle.tree_insert.proofs.Nodes.{carries_lower}
use Rattle.tree_insert.proofs.UnderWay.{gains_kind, served_lower}
use Rattle.tree_insert.proofs.offers.offer_between.Goals as goal

pub returns-clause-gains : goal.returns-clause-gains
returns-clause-gains g c =
    let new : Waiting =
    record {
      value = c.min.result;
      edge = c.args.edge;
      before = c.args.before;
      state =
          c.args.state;
    } in
    let kind = IsBetween (g.T.PathTree.tree c.args.tree.now) c.args.before c.args.edge c.args.value
    c.args.state in
    gains_kind c.args.search.now c.offer.new.search (λ each. each ≡ new) kind c.offer.ensures.gains
    (λ each is. subst kind (sym is) (record {
      lower = omega (arith, c.min.ensures);
      source = carries_lower (g.T.PathTree.tree c.args.tree.now) (node_id c.args.edge.from
          c.args.before) c.in-Some.most
          c.min.result c.in-Some.ensures.carries (omega (arith, c.min.ensures));
      edge_is = refl;
      before_is = refl;
      state_is = refl;
    }))

pub returns-clause-served : goal.returns-clause-served
returns-clause-served g c =
    let target = node_id c.args.edge.to c.args.state in
    on_ok_weaker c.offer.result
    (λ (served : IsServed (g.T.PathTree.tree c.args.tree.now) c.offer.new.search.waiting target
    c.min.result).
    λ number below carries.
    let fits : number < 2 ^ 64 = omega (arith, below) in
    let most : number ≤ c.in-Some.most = c.in-Some.ensures.most number fits carries in
    served_lower (g.T.PathTree.tree c.args.tree.now) c.offer.new.search.waiting target c.min.result
    number
    (omega (arith, c.min.ensures, most, below)) served)
    c.offer.ensures.served
