-- Objects that are told of events.
use Rattle.std.specs.Prelude.{⊤, List, ◌++◌}
use Rattle.rpq_base.specs.declared.data.Event.{Event}
use Rattle.standing.specs.Objects.{ObjectValue}
use Rattle.standing.specs.Circles.{CircleValue}
use Rattle.standing.specs.Stood.{HaveStood}

-- objects that had heard all of some events have heard these behind them: all of them where
-- `whole`, else a front
abbrev pub TellsOn : List Event → Type 0 → CircleValue → CircleValue → Type 0
TellsOn events whole old new =
    (objects : List ObjectValue) (before : List Event)
    → HaveStood objects before ⊤ old.members old.left
    → HaveStood objects (before ++ events) whole new.members new.left
