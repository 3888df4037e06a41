use Rattle.std.proofs.Common.{◌≡◌, take}
use Rattle.std.specs.Prelude.{⊤}
use Rattle.std.specs.Io.KnownBytes.{append_known}
use Rattle.rpq_text.specs.Definitions.{definitions_of}
use Rattle.entry_steps.specs.Steps.{events_of}
use Rattle.rpq_text.specs.Text.{blocks_from}
use Rattle.standing.specs.Circles.{as_seen}
use Rattle.engine_loop.specs.Telling.{TellsOn}
use Rattle.rpq_threads.specs.Told.{all_events}
use Rattle.rpq_threads.proofs.blocks.write_blocks.Given as goal

-- the blocks of the first entries are written, and the objects were told of their events
abbrev pub invariant-loop-i : goal.invariant-loop-i
invariant-loop-i g l = record {
  written : g.K.Sink.written l.events ≡ append_known (g.K.Sink.written l.fn.events)
      (blocks_from (definitions_of l.queries) l.position (take l.i l.entries) (take l.i l.steps));
  told : TellsOn (all_events (events_of (take l.i l.steps))) ⊤
      (as_seen g.O.Standing.seen l.fn.circle) (as_seen g.O.Standing.seen l.circle);
  quiet : g.K.Sink.faults l.events ≡ g.K.Sink.faults l.fn.events;
}
