use Rattle.std.proofs.Common.{◌≡◌, ◌+◌, ◌∙◌, Some, length, slice_get, sym, ap, subst, arith, rules}
use Rattle.edge_store.specs.Edges.{value_of, out_entry, outs_of, AreAtMost}
use Rattle.tree_insert.specs.UnderWay.{IsOut, Leaves}
use Rattle.tree_insert.specs.Waiting.{Gains}
use Rattle.tree_insert.proofs.UnderWay.{gains_kind, gains_twice}
use Rattle.tree_insert.proofs.Outs.{none_served, served_beyond, served_one_more, served_all, served_before, leaves_of_out}
use Rattle.tree_insert.proofs.settling.offer_outs.Given.{Over}
use Rattle.tree_insert.proofs.settling.offer_outs.Goals as goal
use Rattle.tree_insert.proofs.settling.offer_outs.Goals.{After-offer_out}

-- where no edge has a value above the one before
pub returns-then-not-is_below-clause-served : goal.returns-then-not-is_below-clause-served
returns-then-not-is_below-clause-served g c =
    served_before c.args.store.now c.args.dfa.now c.args.rise.id c.args.rise.value
    c.outs-outs.ensures.walk (g.T.PathTree.tree c.args.tree.now) c.args.search.now.waiting
    c.args.rise.before
    c.most.result
    (subst (AreAtMost c.most.result) c.outs-outs.ensures.edges c.most.ensures)
    c.if-not-is_below.ensures.no

-- the edge at the place of the walk
there : (g : Over) (c : After-offer_out g) →
    slice_get (outs_of c.args.store.now c.args.rise.id.vertex) c.loop-k.k
    ≡ Some (out_entry c.at-out.result)
there g c =
    sym (ap (λ outs. slice_get outs c.loop-k.k) c.outs-outs.ensures.edges) ∙ c.at-out.ensures.there

-- the tries of one edge more
gains_more : (g : Over) (c : After-offer_out g) →
    Gains c.args.search.now c.offer_out.new.search
    (Leaves (value_of c.args.store.now) c.args.dfa.now c.args.rise.id c.args.rise.value)
gains_more g c =
    let kind = Leaves (value_of c.args.store.now) c.args.dfa.now c.args.rise.id c.args.rise.value in
    gains_twice c.args.search.now c.loop-k.search c.offer_out.new.search kind
    c.loop-k.invariant.gains
    (gains_kind c.loop-k.search c.offer_out.new.search
    (IsOut c.args.dfa.now c.args.rise.id c.args.rise.value c.at-out.result) kind
    c.offer_out.ensures.gains
    (λ each is. leaves_of_out c.args.store.now c.args.dfa.now c.args.rise.id c.args.rise.value
    c.outs-outs.ensures.walk c.loop-k.k c.at-out.result each (there g c) is))

pub returns-in_err-offer_out-clause-gains : goal.returns-in_err-offer_out-clause-gains
returns-in_err-offer_out-clause-gains g c =
    gains_more g (goal.at.returns-in_err-offer_out-clause-gains g c).After-offer_out

pub returns-in_err-offer_out-clause-counted : goal.returns-in_err-offer_out-clause-counted
returns-in_err-offer_out-clause-counted g c =
    omega (
      arith,
      c.at-out.ensures.counted,
      c.loop-k.invariant.count,
      c.len-len.ensures,
      ap length c.outs-outs.ensures.edges,
    )

pub loop-k-init : goal.loop-k-init
loop-k-init g c =
    record {
      gains = search rules;
      served = served_beyond c.args.dfa.now (g.T.PathTree.tree c.args.tree.now) c.args.rise.id
          c.args.rise.value
          c.args.rise.before (outs_of c.args.store.now c.args.rise.id.vertex)
          c.args.search.now.waiting 0 c.next_place-k.result
          (none_served c.args.dfa.now (g.T.PathTree.tree c.args.tree.now) c.args.rise.id
          c.args.rise.value
          c.args.rise.before (outs_of c.args.store.now c.args.rise.id.vertex)
          c.args.search.now.waiting)
          (λ each entry from below there.
          c.next_place-k.ensures.skipped each entry from below
          (ap (λ outs. slice_get outs each) c.outs-outs.ensures.edges ∙ there));
      within = omega (
        arith,
        c.next_place-k.ensures.within,
        ap length c.outs-outs.ensures.edges,
      );
      count = omega arith;
    }

pub loop-k-preserved : goal.loop-k-preserved
loop-k-preserved g c =
    let after = (goal.at.loop-k-preserved g c).After-offer_out in
    record {
      gains = gains_more g after;
      served = served_beyond c.args.dfa.now (g.T.PathTree.tree c.args.tree.now) c.args.rise.id
          c.args.rise.value
          c.args.rise.before (outs_of c.args.store.now c.args.rise.id.vertex)
          c.offer_out.new.search.waiting (c.loop-k.k + 1) c.next_place-k-in-loop-k.result
          (served_one_more c.args.dfa.now (g.T.PathTree.tree c.args.tree.now) c.args.rise.id
          c.args.rise.value
          c.args.rise.before (outs_of c.args.store.now c.args.rise.id.vertex)
          c.loop-k.search.waiting c.offer_out.new.search.waiting c.loop-k.k c.at-out.result
          c.loop-k.invariant.served c.offer_out.ensures.gains.kept (there g after)
          c.in_ok-offer_out.ensures.served)
          (λ each entry from below there.
          c.next_place-k-in-loop-k.ensures.skipped each entry from below
          (ap (λ outs. slice_get outs each) c.outs-outs.ensures.edges ∙ there));
      within = omega (
        arith,
        c.next_place-k-in-loop-k.ensures.within,
        c.loop-k-test.true,
        c.len-len.ensures,
        ap length c.outs-outs.ensures.edges,
      );
      count = omega (
        arith,
        c.at-out.ensures.counted,
        c.loop-k.invariant.count,
        c.next_place-k-in-loop-k.ensures.onward,
      );
    }

pub loop-k-smaller : goal.loop-k-smaller
loop-k-smaller g c =
    omega (
      arith,
      c.next_place-k-in-loop-k.ensures.onward,
      c.loop-k-test.true,
      c.len-len.ensures,
      ap length c.outs-outs.ensures.edges,
    )

pub returns-clause-served : goal.returns-clause-served
returns-clause-served g c =
    served_all c.args.store.now c.args.dfa.now c.args.rise.id c.args.rise.value
    c.outs-outs.ensures.walk (g.T.PathTree.tree c.args.tree.now) c.loop-k.search.waiting
    c.args.rise.before
    (λ place half here number state below there low lower new leads.
    c.loop-k.invariant.served place half here number state
    (omega (
      arith,
      below,
      c.loop-k-test.false,
      c.len-len.ensures,
      ap length c.outs-outs.ensures.edges,
    )) there low lower new leads)

pub returns-clause-counted : goal.returns-clause-counted
returns-clause-counted g c = omega (arith, c.loop-k.invariant.count, c.loop-k.invariant.within)
