-- What is saved of a history: the tuples that a query still sees, and the clock.
use Rattle.std.specs.Prelude.{ℕ, Bool, ◌==◌, List, [], ◌∷◌, ◌++◌, map, if◌then◌else◌}
use Rattle.std.specs.List.{list_any}
use Rattle.rpq_base.specs.TupleValue.{TupleValue}
use Rattle.rpq_base.specs.declared.data.Act.TheVariants.{Tick}
use Rattle.rpq_base.specs.declared.data.Entry.{Entry}
use Rattle.rpq_model.specs.Window.{clock, is_live}
use Rattle.rpq_model.specs.Query.{Query}

-- whether an entry is live at a clock for one of the queries, before these later entries
abbrev pub is_kept : List Query → ℕ → Entry → List Entry → Bool
is_kept queries now entry later = list_any (λ query. is_live query.window now entry later) queries

-- the tuples of the entries that are live at a clock for one of the queries, in order
unfoldable pub kept_tuples : List Query → ℕ → List Entry → List TupleValue
kept_tuples queries now [] = []
kept_tuples queries now (entry ∷ later) =
    if is_kept queries now entry later
    then entry.tuple ∷ kept_tuples queries now later
    else kept_tuples queries now later

-- the tick that brings a clock
abbrev pub clock_tick : ℕ → TupleValue
clock_tick now = record { time = now; act = Tick }

-- whether one of the tuples has this time
abbrev pub has_time : ℕ → List TupleValue → Bool
has_time now tuples = list_any (λ tuple. tuple.time == now) tuples

-- the tuples, and behind them a tick at the clock where none of them has that time
abbrev pub with_clock : ℕ → List TupleValue → List TupleValue
with_clock now tuples = if has_time now tuples then tuples else tuples ++ clock_tick now ∷ []

-- what is saved of a history for the queries
abbrev pub saved : List Query → List Entry → List TupleValue
saved queries [] = []
saved queries (entry ∷ later) =
    let history = entry ∷ later in
    with_clock (clock history) (kept_tuples queries (clock history) history)

-- the entries of the first stream with these tuples
abbrev pub first_stream : List TupleValue → List Entry
first_stream tuples = map (λ tuple. record { stream = 1; tuple = tuple }) tuples
