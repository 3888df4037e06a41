-- Changes of bindings as text.
use Rattle.std.specs.Prelude.{ℕ, List, [], ◌++◌, flat_map, codes, slice_get, if◌then◌else◌}
use Rattle.std.specs.Option.{option_map_or}
use Rattle.join_bindings.specs.declared.event.JoinEvent.{JoinEvent}
use Rattle.join_file.specs.Joins.{JoinValue}

-- the name of the join with this number, from 0
abbrev pub name_at : List JoinValue → ℕ → List ℕ
name_at joins number = option_map_or (λ join. join.name) (slice_get joins number) []

-- names, each behind a space
abbrev pub values_text : List (List ℕ) → List ℕ
values_text names = flat_map (λ name. codes " " ++ name) names

-- the line of a change: its sign, the name of the join, and the names that the binding gives the
-- variables
abbrev pub join_line : List JoinValue → JoinEvent → List ℕ
join_line joins event =
    (if event.added then codes "++ " else codes "-- ") ++ name_at joins event.join
    ++ values_text event.binding ++ codes "\n"

-- the lines of the changes behind a block
abbrev pub join_lines : List JoinValue → List JoinEvent → List ℕ
join_lines joins events = flat_map (join_line joins) events
