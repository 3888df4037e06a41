use Rattle.std.proofs.Common.{◌≡◌, ◌∷◌, Contains, subst}
use Rattle.std.proofs.lemmas.Result.{on_ok_weaker}
use Rattle.rpq_base.proofs.Outcomes.{on_ok}
use Rattle.delta_tree.specs.declared.node.Try.{Try}
use Rattle.tree_insert.proofs.Members.{contains_head}
use Rattle.edge_store.specs.declared.edge.EdgeId.{EdgeId}
use Rattle.wide_search.specs.Spans.{IsOffered}
use Rattle.wide_search.proofs.Following.{can_lift, counts_kept, counts_out, lifts_after, ready_dropped, ready_lifted, ready_offered}
use Rattle.wide_search.proofs.settling.follow.Goals as goal

pub returns-then-is_marked-clause-ready : goal.returns-then-is_marked-clause-ready
returns-then-is_marked-clause-ready g c start under =
    ready_dropped c.args.graph.now start c.args.table.now c.args.room.now.gains.items
    c.args.room.now.batches.waiting c.args.room.now.batches.level c.args.taken under
    c.requires.level
    (subst (λ (step : Try). Contains c.args.table.now.marked step.to) c.step.ensures
    (c.is_marked.ensures c.if-is_marked.true))

pub lift-requires-clause-stands : goal.lift-requires-clause-stands
lift-requires-clause-stands g c =
    c.requires.ready.1.1.1.stand c.args.taken
    (contains_head c.args.taken c.args.room.now.batches.waiting)

pub lift-requires-clause-lifts : goal.lift-requires-clause-lifts
lift-requires-clause-lifts g c =
    can_lift c.args.graph.now c.requires.ready.0 c.args.table.now c.args.room.now.gains.items
    (c.args.taken ∷ c.args.room.now.batches.waiting) c.args.room.now.batches.level c.args.taken
    c.requires.ready.1 (contains_head c.args.taken c.args.room.now.batches.waiting)
    c.states.ensures.valid.targets

pub returns-then-span-clause-ready : goal.returns-then-span-clause-ready
returns-then-span-clause-ready g c start under =
    ready_lifted c.args.graph.now start c.args.table.now c.lift.new.table
    c.args.room.now.gains.items c.lift.new.gains.items c.args.taken c.in_ok-span.span
    c.in_ok-span.ensures c.if-span.true c.args.room.now.batches.waiting
    c.args.room.now.batches.level c.requires.level under

pub returns-clause-ready : goal.returns-clause-ready
returns-clause-ready g c =
    on_ok_weaker c.offer_outs.result
    (λ (offered : (edge : EdgeId) → edge.from ≡ c.in_ok-span.span.id.vertex →
    IsOffered c.args.graph.now c.in_ok-span.span c.offer_outs.new.batches.waiting edge).
    λ start under.
    ready_offered c.args.graph.now start c.args.table.now c.lift.new.table
    c.args.room.now.gains.items c.lift.new.gains.items c.args.taken c.in_ok-span.span
    c.in_ok-span.ensures c.if-span.false c.args.room.now.batches c.offer_outs.new.batches
    c.offer_outs.ensures.gains offered c.requires.level under)
    c.offer_outs.ensures.offered

-- ---- what is reported

pub returns-then-span-clause-lifts : goal.returns-then-span-clause-lifts
returns-then-span-clause-lifts g c first are =
    lifts_after c.args.table.now c.lift.new.table c.args.room.now.gains.items
    c.lift.new.gains.items c.args.taken c.in_ok-span.span c.in_ok-span.ensures first
    c.args.room.now.lifts.items c.add_lifts.new.lifts.items c.deref.result.now
    c.deref.ensures.value c.in_ok-add_lifts.ensures
    (c.requires.ready.1.1.1.searching.open_ones c.args.taken
    (contains_head c.args.taken c.args.room.now.batches.waiting)).once are

pub returns-then-span-clause-counted : goal.returns-then-span-clause-counted
returns-then-span-clause-counted g c start begin under counts =
    counts_kept c.args.graph.now start c.args.table.now c.lift.new.table
    c.args.room.now.gains.items c.lift.new.gains.items c.args.taken c.in_ok-span.span
    c.in_ok-span.ensures c.args.room.now.batches.waiting c.args.room.now.batches.level under begin
    c.args.steps.now counts

pub returns-clause-lifts : goal.returns-clause-lifts
returns-clause-lifts g c =
    on_ok c.offer_outs.result
    (λ first are.
    lifts_after c.args.table.now c.lift.new.table c.args.room.now.gains.items
    c.lift.new.gains.items c.args.taken c.in_ok-span.span c.in_ok-span.ensures first
    c.args.room.now.lifts.items c.add_lifts.new.lifts.items c.deref.result.now
    c.deref.ensures.value c.in_ok-add_lifts.ensures
    (c.requires.ready.1.1.1.searching.open_ones c.args.taken
    (contains_head c.args.taken c.args.room.now.batches.waiting)).once are)

pub returns-clause-counted : goal.returns-clause-counted
returns-clause-counted g c =
    on_ok c.offer_outs.result
    (λ start begin under counts.
    counts_out c.args.graph.now start c.args.table.now c.lift.new.table
    c.args.room.now.gains.items c.lift.new.gains.items c.args.taken c.in_ok-span.span
    c.in_ok-span.ensures c.args.room.now.batches.waiting c.args.room.now.batches.level under begin
    c.args.steps.now counts c.if-span.false c.requires.level c.offer_outs.new.steps
    c.offer_outs.ensures.counted)
