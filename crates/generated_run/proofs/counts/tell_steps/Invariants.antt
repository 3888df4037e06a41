use Rattle.std.proofs.Common.{take}
use Rattle.std.specs.Prelude.{⊤}
use Rattle.engine_loop.specs.Telling.{TellsOn}
use Rattle.entry_steps.specs.Steps.{events_of}
use Rattle.standing.specs.Circles.{as_seen}
use Rattle.generated_run.specs.Summary.{all_of}
use Rattle.generated_run.specs.Totals.{HasCounted}
use Rattle.generated_run.proofs.counts.tell_steps.Given as goal

-- the events of the steps so far were told, and counted
abbrev pub invariant-loop-i : goal.invariant-loop-i
invariant-loop-i g l = record {
  told : TellsOn (all_of (events_of (take l.i l.steps))) ⊤
      (as_seen g.O.Standing.seen l.fn.circle) (as_seen g.O.Standing.seen l.circle);
  counted : HasCounted l.i (all_of (events_of (take l.i l.steps))) l.fn.totals l.totals;
}
