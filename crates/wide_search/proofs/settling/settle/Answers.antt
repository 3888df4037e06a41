use Rattle.std.proofs.Common.{◌≡◌, ◌+◌, ◌≤◌, inl, inr, ⊎_elim, List, length, ap, arith}
use Rattle.place_table.specs.declared.gain.Gain.{Gain}
use Rattle.wide_search.specs.Batches.{BatchesValue}
use Rattle.wide_search.proofs.Batches.{less_to_do}
use Rattle.wide_search.proofs.Following.{ready_end, ready_taken}
use Rattle.wide_search.proofs.settling.settle.Goals as goal

pub follow-requires-clause-ready : goal.follow-requires-clause-ready
follow-requires-clause-ready g c = (
  c.requires.ready.0,
  ready_taken c.args.graph.now c.requires.ready.0 c.loop-taken.table c.loop-taken.room.gains.items
      c.loop-taken.room.batches c.take.new.self c.in-Some.taken c.in-Some.ensures.some
      (c.loop-taken.invariant.ready c.requires.ready.0 c.requires.ready.1),
)

pub loop-taken-preserved : goal.loop-taken-preserved
loop-taken-preserved g c = record {
  ready = λ start under.
      c.in_ok-follow.ensures.ready start
      (ready_taken c.args.graph.now start c.loop-taken.table c.loop-taken.room.gains.items
      c.loop-taken.room.batches c.take.new.self c.in-Some.taken c.in-Some.ensures.some
      (c.loop-taken.invariant.ready start under));
  lifts = λ first are.
      c.in_ok-follow.ensures.lifts first (c.loop-taken.invariant.lifts first are);
  counted = λ start begin under counts.
      c.in_ok-follow.ensures.counted start begin
      (ready_taken c.args.graph.now start c.loop-taken.table c.loop-taken.room.gains.items
      c.loop-taken.room.batches c.take.new.self c.in-Some.taken c.in-Some.ensures.some
      (c.loop-taken.invariant.ready start under))
      (c.loop-taken.invariant.counted start begin under counts);
}

pub loop-taken-smaller : goal.loop-taken-smaller
loop-taken-smaller g c =
    less_to_do (length c.loop-taken.room.gains.items) (length c.follow.new.room.gains.items)
    (length c.loop-taken.room.batches.waiting) (length c.follow.new.room.batches.waiting)
    (⊎_elim
    (λ (same : (c.follow.new.room.gains.items ≡ c.loop-taken.room.gains.items)
    × (c.follow.new.room.batches ≡ c.take.new.self)).
    inl (
      ap (λ (gains : List Gain). length gains) same.0,
      omega (
        arith,
        ap (λ (batches : BatchesValue). length batches.waiting) same.1,
        c.in-Some.ensures.fewer,
      ),
    ))
    (λ (more : length c.loop-taken.room.gains.items + 1 ≤ length c.follow.new.room.gains.items).
    inr (omega (arith, more)))
    c.in_ok-follow.ensures.more)
    (omega (
      arith,
      c.follow.new.room.gains.ok.0,
      c.follow.new.room.gains.ok.1,
      c.follow.new.room.gains.small,
    ))
    c.fits.ensures

pub returns-clause-ready : goal.returns-clause-ready
returns-clause-ready g c start under =
    ready_end c.args.graph.now start c.loop-taken.table c.loop-taken.room.gains.items
    c.loop-taken.room.batches.waiting c.loop-taken.room.batches.level
    c.in_default.ensures.none (c.loop-taken.invariant.ready start under)
