use Rattle.std.proofs.Common.{◌≡◌, ℕ, ◌∙◌, refl, sym, subst, arith}
use Rattle.std.proofs.lemmas.Option.{same_Some}
use Rattle.std.proofs.lemmas.Result.{on_ok_weaker}
use Rattle.delta_tree.specs.Nodes.{node_id}
use Rattle.edge_store.specs.declared.edge.EdgeId.{EdgeId}
use Rattle.tree_insert.specs.declared.waiting.Waiting.{Waiting}
use Rattle.tree_insert.specs.UnderWay.{IsOut, IsServed}
use Rattle.tree_insert.proofs.Bests.{weaker}
use Rattle.tree_insert.proofs.UnderWay.{gains_kind, served_lower}
use Rattle.tree_insert.proofs.offers.offer_out.Goals as goal

pub returns-clause-gains : goal.returns-clause-gains
returns-clause-gains g c =
    let edge : EdgeId =
    record { from = c.args.rise.id.vertex; label = c.args.out.label; to = c.args.out.to } in
    let new : Waiting =
    record {
      value = c.min.result;
      edge = edge;
      before = c.args.rise.id.state;
      state =
          c.in-Some.state;
    } in
    gains_kind c.args.search.now c.offer.new.search (λ each. each ≡ new)
    (IsOut c.args.dfa.now c.args.rise.id c.args.rise.value c.args.out)
    c.offer.ensures.gains
    (λ each is. subst (IsOut c.args.dfa.now c.args.rise.id c.args.rise.value c.args.out) (sym is)
    (record {
      value_is = c.min.ensures;
      edge = refl;
      before = refl;
      is_step = record {
        leads = sym c.in-Some.ensures.step;
        some = c.in-Some.ensures.within.0;
        within = c.in-Some.ensures.within.1;
      };
    }))

pub returns-clause-served : goal.returns-clause-served
returns-clause-served g c =
    on_ok_weaker c.offer.result
    (λ (served : IsServed (g.T.PathTree.tree c.args.tree.now) c.offer.new.search.waiting
    (node_id c.args.out.to c.in-Some.state) c.min.result).
    λ number state low lower new leads.
    let same : c.in-Some.state ≡ state =
    same_Some c.in-Some.state state (c.in-Some.ensures.step ∙ leads) in
    subst (λ (s : ℕ). IsServed (g.T.PathTree.tree c.args.tree.now) c.offer.new.search.waiting
    (node_id c.args.out.to s)
    number) same
    (served_lower (g.T.PathTree.tree c.args.tree.now) c.offer.new.search.waiting
    (node_id c.args.out.to c.in-Some.state)
    c.min.result number
    (omega (arith, c.min.ensures, low, lower)) served))
    c.offer.ensures.served

pub returns-then-not-is_below-clause-served : goal.returns-then-not-is_below-clause-served
returns-then-not-is_below-clause-served g c number state low lower new leads =
    absurd (new
    (weaker c.args.rise.before c.args.out.value number c.if-not-is_below.ensures.no lower))
