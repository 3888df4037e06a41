-- Tuples that are drawn, three numbers for each.
use Rattle.std.specs.Prelude.{ℕ, ◌-◌, ◌*◌, ◌%◌, ◌==◌, false, if◌then◌else◌, List, ◌++◌, map, None}
use Rattle.std.specs.Prelude.{codes, decimal}
use Rattle.std.specs.List.{range_with_len}
use Rattle.rpq_base.specs.declared.data.Edge.{Edge}
use Rattle.rpq_base.specs.declared.data.Act.{Act}
use Rattle.rpq_base.specs.declared.data.Act.TheVariants.{Insert, Delete}
use Rattle.rpq_base.specs.declared.data.Tuple.{Tuple}
use Rattle.rpq_base.specs.declared.data.Entry.{Entry}
use Rattle.tuple_generator.specs.Seeds.{next_seed, seed, number_of}

-- the vertex that a number chooses: one of a hundred, from `v0` to `v99`
abbrev pub vertex_of : ℕ → List ℕ
vertex_of number = codes "v" ++ decimal (number % 100)

-- the name of the label that a number chooses
abbrev pub label_of : ℕ → List ℕ
label_of choice =
    if choice % 3 == 0 then codes "a" else if choice % 3 == 1 then codes "b" else codes "c"

-- the edge from one vertex to another with a label that points forwards
abbrev pub edge_named : List ℕ → List ℕ → List ℕ → Edge
edge_named from label to =
    record { from = from; label = record { name = label; back = false }; to = to }

-- the edge whose source, target and label three numbers choose
abbrev pub edge_of : ℕ → ℕ → ℕ → Edge
edge_of source target choice =
    edge_named (vertex_of source) (label_of choice) (vertex_of target)

-- what a number does with an edge: one of sixteen deletes it, the others insert it
abbrev pub act_of : ℕ → Edge → Act
act_of choice edge = if choice % 16 == 15 then Delete edge else Insert edge None

-- the tuple at a position that three numbers choose; its time is its position
abbrev pub tuple_of : ℕ → ℕ → ℕ → ℕ → Tuple
tuple_of position source target choice =
    record { time = position; act = act_of choice (edge_of source target choice) }

-- the tuple at a position, made with the three seeds that follow the seed before it
unfoldable pub generated_tuple : ℕ → ℕ → Tuple
generated_tuple position before =
    let first = next_seed before in
    let second = next_seed first in
    let third = next_seed second in
    tuple_of position (number_of first) (number_of second) (number_of third)

-- the seed before the next tuple, from the one before this tuple: three seeds on
abbrev pub seed_after : ℕ → ℕ
seed_after before = next_seed (next_seed (next_seed before))

-- the seed before the tuple at a position, from 1: three seeds are taken for each tuple
abbrev pub seed_before : ℕ → ℕ
seed_before position = seed (3 * position - 3)

-- the tuple at a position, from 1
abbrev pub tuple_at : ℕ → Tuple
tuple_at position = generated_tuple position (seed_before position)

-- the first so many tuples
abbrev pub generated_tuples : ℕ → List Tuple
generated_tuples count = map tuple_at (range_with_len 1 count)

-- the entry of the tuple at a position, in the history of one stream
abbrev pub entry_at : ℕ → Entry
entry_at position = record { stream = 1; tuple = tuple_at position }

-- the history in which one stream has the first so many tuples
abbrev pub generated_history : ℕ → List Entry
generated_history count = map entry_at (range_with_len 1 count)
