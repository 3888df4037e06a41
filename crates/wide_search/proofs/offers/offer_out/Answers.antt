use Rattle.std.proofs.Common.{◌≡◌, refl, sym, subst, arith}
use Rattle.tree_insert.proofs.Bests.{at_least}
use Rattle.edge_store.specs.declared.edge.EdgeId.{EdgeId}
use Rattle.wide_search.specs.declared.batch.Batch.{Batch}
use Rattle.wide_search.specs.Spans.{IsOfSpan, widths_in}
use Rattle.wide_search.proofs.Spans.{gains_kind}
use Rattle.wide_search.proofs.offers.offer_out.Goals as goal

pub returns-clause-gains : goal.returns-clause-gains
returns-clause-gains c =
    let edge : EdgeId =
    record { from = c.args.span.id.vertex; label = c.args.out.label; to = c.args.out.to } in
    let new : Batch =
    record {
      width = c.min.result;
      edge = edge;
      before = c.args.span.id.state;
      state = c.in-Some-step.state;
      low = c.args.span.low;
      high = c.args.span.high;
    } in
    gains_kind c.args.batches.now c.push.new.self (λ each. each ≡ new)
    (IsOfSpan c.args.graph.now c.args.span) c.push.ensures.gains
    (λ each is. subst (IsOfSpan c.args.graph.now c.args.span) (sym is) (record {
      source = refl;
      lower = omega (arith, c.min.ensures);
      edge = at_least (widths_in c.args.graph.now c.args.span.id.state edge) c.min.result
          c.in-Some.width (sym c.in-Some.ensures) (omega (arith, c.min.ensures));
      leads = sym c.in-Some-step.ensures.step;
      low = refl;
      high = refl;
    }))
