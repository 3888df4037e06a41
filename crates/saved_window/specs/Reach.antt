-- How far back the windows of queries reach. No public contract cites this file.
use Rattle.std.specs.Prelude.{◌≡◌, ℕ, Bool, false, List, map, Option, Some, None}
use Rattle.std.specs.List.{list_any}
use Rattle.rpq_base.specs.TupleValue.{TupleValue}
use Rattle.rpq_model.specs.Window.{WindowValue, Placed, is_in_window}
use Rattle.rpq_model.specs.Query.{Query}

-- whether a time is in the window at a clock, if there is a window
abbrev pub reaches : Option WindowValue → ℕ → ℕ → Bool
reaches None now time = false
reaches (Some window) now time = is_in_window window now time

-- whether a time is in the window of one of the queries at a clock
abbrev pub one_reaches : List Query → ℕ → ℕ → Bool
one_reaches queries now time = list_any (λ query. is_in_window query.window now time) queries

-- a time is in the window at a clock, if there is one, exactly where it is in that of one of the
-- queries
abbrev pub ReachesForAll : List Query → ℕ → Option WindowValue → Type 0
ReachesForAll queries now found =
    (time : ℕ) → one_reaches queries now time ≡ reaches found now time

-- the tuples of entries with places
abbrev pub tuples_of : List Placed → List TupleValue
tuples_of live = map (λ each. each.entry.tuple) live
