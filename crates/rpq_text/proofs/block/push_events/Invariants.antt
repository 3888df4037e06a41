use Rattle.std.proofs.Common.{◌≡◌, ◌++◌, drop}
use Rattle.rpq_text.specs.Definitions.{definitions_of}
use Rattle.rpq_text.specs.Text.{event_lines}
use Rattle.rpq_text.proofs.block.push_events.Given as goal

-- with the lines of the events and paths that are left, all lines are there
abbrev pub invariant-loop-place : goal.invariant-loop-place
invariant-loop-place l =
    l.text.items ++ event_lines (definitions_of l.queries) (drop l.place l.events) l.rest
    ≡ l.initial.text.items ++ event_lines (definitions_of l.queries) l.events l.shown
