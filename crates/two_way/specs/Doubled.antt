-- Inverse entries, and histories in which each entry stands with its inverse.
use Rattle.std.specs.Prelude.{true, List, ◌∷◌, Option, Some, None}
use Rattle.std.specs.List.{flat_map}
use Rattle.std.specs.Option.{option_map, option_to_list}
use Rattle.rpq_base.specs.declared.data.Label.{Label}
use Rattle.rpq_base.specs.declared.data.Edge.{Edge}
use Rattle.rpq_base.specs.declared.data.Act.{Act}
use Rattle.rpq_base.specs.declared.data.Act.TheVariants.{Insert, Delete, Tick}
use Rattle.rpq_base.specs.declared.data.Entry.{Entry}

-- the label of this name that points backwards
abbrev pub inverse_label : Label → Label
inverse_label label = record { name = label.name; back = true }

-- the edge taken backwards: from its target, by the inverse label, to its source
abbrev pub inverse_edge : Edge → Edge
inverse_edge edge = record { from = edge.to; label = inverse_label edge.label; to = edge.from }

-- the same act on the edge taken backwards; a tick has no edge
abbrev pub inverse_act : Act → Option Act
inverse_act (Insert edge until) = Some (Insert (inverse_edge edge) until)
inverse_act (Delete edge) = Some (Delete (inverse_edge edge))
inverse_act Tick = None

-- the entry of the same stream and time with this act
abbrev pub with_act : Entry → Act → Entry
with_act entry act =
    record { stream = entry.stream; tuple = record { time = entry.tuple.time; act = act } }

-- the inverse of an entry, which a tick doesn't have
abbrev pub inverse_entry : Entry → Option Entry
inverse_entry entry = option_map (with_act entry) (inverse_act entry.tuple.act)

-- an entry, and behind it its inverse where it has one
abbrev pub doubled_by : Entry → List Entry
doubled_by entry = entry ∷ option_to_list (inverse_entry entry)

-- the history in which each entry stands with its inverse
abbrev pub doubled : List Entry → List Entry
doubled history = flat_map doubled_by history
