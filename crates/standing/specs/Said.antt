-- What the objects say.
use Rattle.std.specs.Prelude.{ℕ, List, ◌++◌, codes, decimal, flat_map, if◌then◌else◌}
use Rattle.rpq_base.specs.declared.data.Event.{Event}
use Rattle.standing.specs.Objects.{Numbers}

-- a word and two numbers, with a space before each
unfoldable pub numbers_text : List ℕ → Numbers → List ℕ
numbers_text word numbers =
    word ++ (codes " " ++ (decimal numbers.added ++ (codes " " ++ decimal numbers.retracted)))

-- a space, the sign of the event, the query, and the two vertices of the pair behind commas
unfoldable pub event_text : Event → List ℕ
event_text event =
    codes " " ++ ((if event.added then codes "+" else codes "-") ++ (decimal event.query
    ++ (codes "," ++ (event.pair.from ++ (codes "," ++ event.pair.to)))))

-- the word `tail`, and then the events
unfoldable pub tail_text : List Event → List ℕ
tail_text events = codes "tail" ++ flat_map event_text events
