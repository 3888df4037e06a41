use Rattle.std.proofs.Common.{◌≡◌, ◌+◌, ◌∙◌, Some, length, slice_get, sym, ap, subst, arith, rules}
use Rattle.std.proofs.lemmas.Option.{slice_get_within, get_or_from_slice_get}
use Rattle.edge_store.specs.Edges.{AreAtMost, out_entry, outs_of}
use Rattle.wide_search.specs.Batches.{Gains}
use Rattle.wide_search.specs.Spans.{IsOfSpan}
use Rattle.wide_search.proofs.Spans.{gains_twice, none_offered, one_offered, offered_all, offered_before, offered_beyond}
use Rattle.wide_search.proofs.offers.offer_outs.Given.{Over}
use Rattle.wide_search.proofs.offers.offer_outs.Goals as goal
use Rattle.wide_search.proofs.offers.offer_outs.Goals.{After-offer_out}

-- where no edge has a value above the one before
pub returns-then-not-is_below-clause-offered : goal.returns-then-not-is_below-clause-offered
returns-then-not-is_below-clause-offered g c =
    offered_before c.args.graph.now c.args.span c.requires.raised c.outs-outs.ensures.walk
    c.args.batches.now.waiting c.most.result
    (subst (AreAtMost c.most.result) c.outs-outs.ensures.edges c.most.ensures)
    c.if-not-is_below.ensures.no

-- the edge at the place of the walk
there : (g : Over) (c : After-offer_out g) →
    slice_get (outs_of c.args.graph.now.store.now c.args.span.id.vertex) c.loop-k.k
    ≡ Some (out_entry c.at-out.result)
there g c =
    sym (ap (λ outs. slice_get outs c.loop-k.k) c.outs-outs.ensures.edges) ∙ c.at-out.ensures.there

gains_more : (g : Over) (c : After-offer_out g) →
    Gains c.args.batches.now c.offer_out.new.batches (IsOfSpan c.args.graph.now c.args.span)
gains_more g c =
    gains_twice c.args.batches.now c.loop-k.batches c.offer_out.new.batches
    (IsOfSpan c.args.graph.now c.args.span) c.loop-k.invariant.gains c.offer_out.ensures.gains

pub returns-in_err-offer_out-clause-gains : goal.returns-in_err-offer_out-clause-gains
returns-in_err-offer_out-clause-gains g c =
    gains_more g (goal.at.returns-in_err-offer_out-clause-gains g c).After-offer_out

pub returns-in_err-offer_out-clause-counted : goal.returns-in_err-offer_out-clause-counted
returns-in_err-offer_out-clause-counted g c =
    omega (
      arith,
      c.at-out.ensures.counted,
      c.loop-k.invariant.count,
      c.len-len.ensures,
      ap length c.outs-outs.ensures.edges,
    )

pub loop-k-init : goal.loop-k-init
loop-k-init g c =
    record {
      gains = search rules;
      offered = offered_beyond c.args.graph.now c.args.span c.requires.raised
          c.outs-outs.ensures.walk c.args.batches.now.waiting 0 c.next_place-k.result
          (none_offered c.args.graph.now c.args.span
          (outs_of c.args.graph.now.store.now c.args.span.id.vertex) c.args.batches.now.waiting)
          (λ each entry from below there.
          c.next_place-k.ensures.skipped each entry from below
          (ap (λ outs. slice_get outs each) c.outs-outs.ensures.edges ∙ there));
      within = omega (
        arith,
        c.next_place-k.ensures.within,
        ap length c.outs-outs.ensures.edges,
      );
      count = omega arith;
    }

pub loop-k-preserved : goal.loop-k-preserved
loop-k-preserved g c =
    let after = (goal.at.loop-k-preserved g c).After-offer_out in
    record {
      gains = gains_more g after;
      offered = offered_beyond c.args.graph.now c.args.span c.requires.raised
          c.outs-outs.ensures.walk c.offer_out.new.batches.waiting (c.loop-k.k + 1)
          c.next_place-k-in-loop-k.result
          (one_offered c.args.graph.now c.args.span
          (outs_of c.args.graph.now.store.now c.args.span.id.vertex) c.loop-k.batches.waiting
          c.offer_out.new.batches.waiting c.loop-k.k c.at-out.result c.loop-k.invariant.offered
          c.offer_out.ensures.gains.kept (there g after) c.in_ok-offer_out.ensures.offered)
          (λ each entry from below there.
          c.next_place-k-in-loop-k.ensures.skipped each entry from below
          (ap (λ outs. slice_get outs each) c.outs-outs.ensures.edges ∙ there));
      within = omega (
        arith,
        c.next_place-k-in-loop-k.ensures.within,
        c.loop-k-test.true,
        c.len-len.ensures,
        ap length c.outs-outs.ensures.edges,
      );
      count = omega (
        arith,
        c.at-out.ensures.counted,
        c.loop-k.invariant.count,
        c.next_place-k-in-loop-k.ensures.onward,
      );
    }

pub loop-k-smaller : goal.loop-k-smaller
loop-k-smaller g c =
    omega (
      arith,
      c.next_place-k-in-loop-k.ensures.onward,
      c.next_place-k-in-loop-k.ensures.within,
      c.loop-k-test.true,
      c.len-len.ensures,
      ap length c.outs-outs.ensures.edges,
    )

pub returns-clause-counted : goal.returns-clause-counted
returns-clause-counted g c = omega (arith, c.loop-k.invariant.count, c.loop-k.invariant.within)

pub returns-clause-offered : goal.returns-clause-offered
returns-clause-offered g c =
    offered_all c.args.graph.now c.args.span c.requires.raised c.outs-outs.ensures.walk
    c.loop-k.batches.waiting
    (λ place half here below there.
    c.loop-k.invariant.offered place half here
    (omega (
      arith,
      below,
      c.loop-k-test.false,
      c.len-len.ensures,
      ap length c.outs-outs.ensures.edges,
    )) there)

pub offer_out-requires-clause-there : goal.offer_out-requires-clause-there
offer_out-requires-clause-there g c =
    let outs = outs_of c.args.graph.now.store.now c.args.span.id.vertex in
    let entry = out_entry c.at-out.result in
    let at : slice_get outs c.loop-k.k ≡ Some entry =
    sym (ap (λ each. slice_get each c.loop-k.k) c.outs-outs.ensures.edges) ∙ c.at-out.ensures.there
    in
    (c.outs-outs.ensures.walk.exact entry.0 entry.1).0 (
      c.loop-k.k,
      slice_get_within outs c.loop-k.k entry at,
      get_or_from_slice_get outs c.loop-k.k entry entry at,
    )
