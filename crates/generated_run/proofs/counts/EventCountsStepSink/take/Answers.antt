use Rattle.std.proofs.Common.{◌≡◌, ℕ, Some, None, subst}
use Rattle.std.specs.Prelude.{⊤}
use Rattle.engine_loop.proofs.TellingMore.{tells_weaker}
use Rattle.entry_steps.specs.Steps.{events_of}
use Rattle.history_model.specs.declared.line.Why.TheVariants.{Memory}
use Rattle.standing.specs.Circles.{as_seen}
use Rattle.generated_run.specs.Summary.{all_of}
use Rattle.generated_run.specs.Totals.{HasCounted}
use Rattle.generated_run.proofs.counts.EventCountsStepSink.take.Goals as goal

pub returns-in-Ok : goal.returns-in-Ok
returns-in-Ok g c =
    let events = all_of (events_of c.args.steps.now) in
    let seen = g.O.Standing.seen in
    record {
      told = tells_weaker events ⊤ (None ≡ None) (as_seen seen c.args.self.now.circle)
          (as_seen seen c.tell_steps.new.circle) (λ _. tt) c.in-Ok.ensures.told;
      counted = λ _. subst (λ (n : ℕ). HasCounted n events c.args.self.now.totals
          c.tell_steps.new.totals) c.requires.as_many c.in-Ok.ensures.counted;
    }

pub returns-in-Err : goal.returns-in-Err
returns-in-Err g c =
    let events = all_of (events_of c.args.steps.now) in
    let seen = g.O.Standing.seen in
    record {
      told = tells_weaker events ⊥ (Some Memory ≡ None) (as_seen seen c.args.self.now.circle)
          (as_seen seen c.tell_steps.new.circle) (λ is. cc) c.in-Err.ensures.part;
      counted = λ is. absurd cc;
    }
