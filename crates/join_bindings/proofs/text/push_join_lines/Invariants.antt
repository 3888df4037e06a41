use Rattle.std.proofs.Common.{◌≡◌, ◌++◌, take}
use Rattle.join_bindings.specs.JoinText.{join_lines}
use Rattle.join_bindings.proofs.text.push_join_lines.Given as goal

-- the lines of the events so far
abbrev pub invariant-loop-event : goal.invariant-loop-event
invariant-loop-event l = l.text.items ≡ l.initial.text.items ++ join_lines l.defs (take l.event-index l.events)
