use Rattle.std.proofs.Common.{◌≡◌, ℕ, Bool, ap, ◌∙◌, arith}
use Rattle.std.specs.Prelude.{cond}
use Rattle.std.proofs.lemmas.List.{take_all}
use Rattle.rpq_base.specs.declared.data.Event.{Event}
use Rattle.generated_run.specs.Summary.{additions}
use Rattle.generated_run.proofs.Told.{added_or_retracted, additions_more}
use Rattle.generated_run.proofs.totals.additions.Goals as goal
use Rattle.generated_run.proofs.totals.additions.Goals.{then-at, else-at}

pub loop-place-preserved : goal.loop-place-preserved
loop-place-preserved c =
    let own : Event = record {
      query = c.at.result.query;
      added = c.at.result.added;
      pair = record { from = c.at.result.from.now; to = c.at.result.to.now };
    } in
    let more = additions_more c.args.events.now c.loop-place.place own c.at.ensures in
    let counted : Bool → ℕ = λ (added : Bool). cond added 1 0 in
    elim c.if-at.branch [
      | then-at w ↦
          omega (arith, w.count-is, c.loop-place.invariant, more, ap {B = ℕ} counted w.if-at.true)
      | else-at w ↦
          omega (arith, w.count-is, c.loop-place.invariant, more, ap {B = ℕ} counted w.if-at.false)
    ]

pub returns-clause-others : goal.returns-clause-others
returns-clause-others c =
    let events = c.args.events.now in
    let all : c.loop-place.count ≡ additions events =
    c.loop-place.invariant
    ∙ ap additions (take_all c.loop-place.place events
    (omega (arith, c.loop-place-test.false, c.len-place-end.ensures))) in
    omega (arith, all, added_or_retracted events)
