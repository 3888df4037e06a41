use Rattle.std.proofs.Common.{◌≡◌, ◌∷◌, ◌++◌, [], List, inl, inr, Contains, sym, ap, subst, ◌∙◌, arith}
use Rattle.std.proofs.lemmas.List.{append-nil}
use Rattle.place_table.specs.declared.gain.Gain.{Gain}
use Rattle.place_table.specs.Lifts.{LiftsAll, between, lifted_gains, brings}
use Rattle.place_table.proofs.Steps.{lifts_none, lifts_same, lifts_more, gains_more, carries_still, in_range, fresh_root, range_more, gains_behind, lifts_marked, between_none, between_end}
use Rattle.place_table.proofs.Found.{ok_so}
use Rattle.place_table.proofs.table.PlaceTable.lift_all.Goals as goal

pub returns-then-low-high-clause-lifts : goal.returns-then-low-high-clause-lifts
returns-then-low-high-clause-lifts c =
    subst (λ (gains : List Gain). LiftsAll c.args.self.now c.args.self.now c.args.step c.args.width gains)
    (sym (between_end c.args.gains.now.items c.args.low c.args.high c.if-low-high.true))
    (lifts_none c.args.self.now c.args.step c.args.width)

pub returns-then-low-high-clause-gains : goal.returns-then-low-high-clause-gains
returns-then-low-high-clause-gains c =
    sym (append-nil c.args.gains.now.items)
    ∙ ap (λ (gains : List Gain). c.args.gains.now.items
    ++ lifted_gains c.args.self.now c.args.step.to c.args.width gains)
    (sym (between_end c.args.gains.now.items c.args.low c.args.high c.if-low-high.true))

pub loop-at-init : goal.loop-at-init
loop-at-init c = record {
  lifts = subst (λ (gains : List Gain). LiftsAll c.args.self.now c.make_place.new.self
      c.args.step c.args.width gains) (sym (between_none c.args.gains.now.items c.args.low))
      (lifts_same c.args.self.now c.make_place.new.self c.args.step c.args.width
      c.make_place.ensures.trees c.make_place.ensures.puts);
  gains = sym (append-nil c.args.gains.now.items)
      ∙ ap (λ (gains : List Gain). c.args.gains.now.items
      ++ lifted_gains c.args.self.now c.args.step.to c.args.width gains)
      (sym (between_none c.args.gains.now.items c.args.low));
  number = c.in_ok-number.ensures.number;
  root = c.make_place.ensures.shown;
  marked = c.make_place.ensures.marked;
}

pub lift_one-requires-clause-hangs : goal.lift_one-requires-clause-hangs
lift_one-requires-clause-hangs c =
    let gains = c.args.gains.now.items in
    let gain = c.index-gain.result.now in
    let so_far = between c.args.low c.loop-at.at gains in
    let more = lifted_gains c.args.self.now c.args.step.to c.args.width so_far in
    let here = in_range gains c.loop-at.gains.items more c.args.low c.loop-at.at c.args.high gain
    c.loop-at.auto.at c.loop-at-test.true c.requires.range.1 c.loop-at.invariant.gains
    c.index-gain.ensures in
    let fresh = fresh_root gains c.loop-at.gains.items more c.args.low c.loop-at.at c.args.high gain
    c.loop-at.auto.at c.loop-at-test.true c.requires.range.1 c.loop-at.invariant.gains
    c.index-gain.ensures c.requires.lifts.once in
    record {
      from = carries_still c.args.self.now c.loop-at.self c.args.step c.args.width so_far gain.root
          (brings c.args.width gain) c.loop-at.invariant.lifts fresh
          (c.requires.lifts.from gain here);
      state = c.requires.lifts.state;
      joins = c.requires.lifts.joins;
    }

pub loop-at-preserved : goal.loop-at-preserved
loop-at-preserved c =
    let gains = c.args.gains.now.items in
    let gain = c.index-gain.result.now in
    let so_far = between c.args.low c.loop-at.at gains in
    let more = lifted_gains c.args.self.now c.args.step.to c.args.width so_far in
    let fresh = fresh_root gains c.loop-at.gains.items more c.args.low c.loop-at.at c.args.high gain
    c.loop-at.auto.at c.loop-at-test.true c.requires.range.1 c.loop-at.invariant.gains
    c.index-gain.ensures c.requires.lifts.once in
    let longer = range_more gains c.loop-at.gains.items more c.args.low c.loop-at.at c.args.high gain
    c.loop-at.auto.at c.loop-at-test.true c.requires.range.1 c.loop-at.invariant.gains
    c.index-gain.ensures in
    record {
      lifts = subst (LiftsAll c.args.self.now c.lift_one.new.self c.args.step c.args.width)
          (sym longer)
          (lifts_more c.args.self.now c.loop-at.self c.lift_one.new.self c.args.step c.args.width
          so_far gain c.loop-at.invariant.lifts c.in_ok-lift_one.ensures.lifts fresh);
      gains = gains_behind gains c.loop-at.gains.items c.lift_one.new.gains.items more
          (lifted_gains c.loop-at.self c.args.step.to c.args.width (gain ∷ []))
          c.loop-at.invariant.gains c.in_ok-lift_one.ensures.gains
          ∙ ap (λ l. gains ++ l)
          (sym (gains_more c.args.self.now c.loop-at.self c.lift_one.new.self c.args.step
          c.args.width so_far gain c.loop-at.invariant.lifts c.in_ok-lift_one.ensures.lifts fresh)
          ∙ ap (lifted_gains c.args.self.now c.args.step.to c.args.width) (sym longer));
      number = c.lift_one.ensures.number;
      root = c.lift_one.ensures.beside.shown ∙ c.loop-at.invariant.root;
      marked = c.lift_one.ensures.beside.marked ∙ c.loop-at.invariant.marked;
    }

pub returns-clause-lifts : goal.returns-clause-lifts
returns-clause-lifts c =
    let end : c.loop-at.at ≡ c.args.high =
    omega (arith, c.loop-at-test.false, c.loop-at.auto.at-end c.requires.range.0) in
    ok_so c.mark.result
    (lifts_marked c.args.self.now c.loop-at.self c.mark.new.self c.args.step c.args.width
    (between c.args.low c.args.high c.args.gains.now.items)
    (subst (λ n. LiftsAll c.args.self.now c.loop-at.self c.args.step c.args.width
    (between c.args.low n c.args.gains.now.items)) end c.loop-at.invariant.lifts)
    c.mark.ensures.places c.mark.ensures.puts)

pub returns-clause-marks : goal.returns-clause-marks
returns-clause-marks c id has = elim (c.mark.ensures.marked id has) [
  | inl before ↦ inl (subst (λ l. Contains l id) c.loop-at.invariant.marked before)
  | inr at ↦ inr at
]
