use Rattle.std.proofs.Common.{List, take}
use Rattle.rpq_base.specs.declared.data.Entry.{Entry}
use Rattle.path_engine.specs.Engine.{definitions}
use Rattle.entry_steps.specs.Steps.{AreShown, additions}
use Rattle.entry_steps.specs.Showing.{CanShow}
use Rattle.entry_steps.proofs.steps.paths_of.Given as goal

-- each addition so far has a path that shows it
abbrev pub invariant-loop-event : goal.invariant-loop-event
invariant-loop-event l = (history : List Entry) → CanShow l.engine l.marks history l.events →
    AreShown (definitions l.engine) history (additions (take l.event-index l.events)) l.shown.items
