use Rattle.std.proofs.Common.{◌++◌, ◌+◌, List, take, drop, sym, ap, subst}
use Rattle.rpq_base.proofs.Outcomes.{on_err}
use Rattle.rpq_base.specs.declared.data.Event.{Event}
use Rattle.engine_loop.proofs.TellingMore.{tells_more, tells_front_of_more}
use Rattle.engine_loop.specs.Telling.{TellsOn}
use Rattle.entry_steps.specs.Steps.{StepValue, events_of}
use Rattle.standing.specs.Circles.{as_seen}
use Rattle.generated_run.specs.Summary.{all_of}
use Rattle.generated_run.proofs.Told.{all_cut}
use Rattle.generated_run.proofs.counts.tell_steps.Goals as goal

pub returns-in_err-tell_events-clause-part : goal.returns-in_err-tell_events-clause-part
returns-in_err-tell_events-clause-part g c =
    let steps = c.args.steps.now in
    let i = c.loop-i.i in
    let step = c.index-steps-i.result in
    let first = all_of (events_of (take i steps)) in
    let rest = all_of (events_of (drop (i + 1) steps)) in
    let old = as_seen g.O.Standing.seen c.args.circle.now in
    let between = as_seen g.O.Standing.seen c.loop-i.circle in
    let new = as_seen g.O.Standing.seen c.tell_events.new.circle in
    let part : TellsOn step.events ⊥ between new =
    subst (λ (events : List Event). TellsOn events ⊥ between new)
    (ap (λ (each : StepValue). each.events) c.step.view_is) c.in_err-tell_events.ensures.part in
    on_err c.from_residual.result
    (subst (λ (events : List Event). TellsOn events ⊥ old new)
    (sym (all_cut steps i step c.loop-i-test.true c.index-steps-i.is))
    (tells_front_of_more (first ++ step.events) rest ⊥ ⊥ old new (λ never. never)
    (tells_more first step.events ⊥ old between new c.loop-i.invariant.told part)))
