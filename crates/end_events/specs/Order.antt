-- The order of pairs of numbers, for sorts: that of their names, which the names' beginnings
-- follow. No public contract cites this file.
use Rattle.std.specs.Prelude.{ℕ, List}
use Rattle.std.specs.Ordering.{nat_cmp, ordering_then}
use Rattle.std.specs.declared.cmp.Ordering.{Ordering}
use Rattle.rpq_base.specs.Order.{name_cmp}
use Rattle.name_table.specs.Names.{name_at}
use Rattle.end_events.specs.declared.pairs.NumberedPair.{NumberedPair}

-- the order of the keys that stand beside two numbers, and then that of their names
abbrev pub keyed_cmp : List (List ℕ) → ℕ → ℕ → ℕ → ℕ → Ordering
keyed_cmp names first first_key second second_key =
    ordering_then (nat_cmp first_key second_key)
    (name_cmp (name_at names first) (name_at names second))

-- the order of two pairs by both
abbrev pub numbered_cmp : List (List ℕ) → NumberedPair → NumberedPair → Ordering
numbered_cmp names first second = ordering_then
    (keyed_cmp names first.root first.root_key second.root second.root_key)
    (keyed_cmp names first.vertex first.vertex_key second.vertex second.vertex_key)
