use Rattle.std.proofs.Common.{◌≡◌, ◌++◌, ◌∙◌, length, refl, ap, subst, arith}
use Rattle.delta_tree.specs.declared.node.Try.{Try}
use Rattle.place_table.specs.Lifts.{LiftsAll, MarksAtMost, lifted_gains}
use Rattle.wide_search.specs.Batches.{target_of}
use Rattle.wide_search.specs.Ready.{held}
use Rattle.wide_search.proofs.Following.{behind_there}
use Rattle.wide_search.proofs.settling.lift.Goals as goal

pub returns : goal.returns
returns c =
    let old = c.args.table.now in
    let new = c.lift_all.new.self in
    let before = c.args.gains.now.items in
    let batch = c.args.batch in
    let gains = held before batch in
    let more = lifted_gains old (target_of batch) batch.width gains in
    let step = c.step-step.ensures in
    let added : c.lift_all.new.gains.items ≡ before ++ more =
    subst (λ (each : Try). c.lift_all.new.gains.items
    ≡ before ++ lifted_gains old each.to batch.width gains) step c.in_ok-lift_all.ensures.gains in
    let low : c.len-low.result ≡ length before =
    omega (arith, c.len-low.ensures, c.args.gains.now.ok.0) in
    record {
      lifts = subst (λ (each : Try). LiftsAll old new each batch.width gains) step
          c.in_ok-lift_all.ensures.lifts;
      marks = subst (λ (each : Try). MarksAtMost old new each.to) step c.lift_all.ensures.marks;
      shown = c.lift_all.ensures.root;
      added = added;
      id = ap (λ (each : Try). each.to) step;
      width = refl;
      low = low;
      high = omega (arith, c.len-high.ensures, c.lift_all.new.gains.ok.0);
      least = λ one number has reached.
          c.least_before.ensures one number
          (behind_there before more c.deref.result.now c.len-low.result
          (c.deref.ensures.value ∙ added) low one has) reached;
    }
