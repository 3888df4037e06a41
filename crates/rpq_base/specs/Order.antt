-- The orders of names, labels, words and pairs.
use Rattle.std.specs.Prelude.{ℕ, List, length}
use Rattle.std.specs.declared.cmp.Ordering.{Ordering}
use Rattle.std.specs.Ordering.{nat_cmp, bool_cmp, ordering_then}
use Rattle.std.specs.Cmp.Lexicographic.{slice_cmp}
use Rattle.rpq_base.specs.declared.data.Label.{Label}
use Rattle.rpq_base.specs.declared.data.Pair.{Pair}

-- names byte by byte, a name before those that it begins
abbrev pub name_cmp : List ℕ → List ℕ → Ordering
name_cmp = slice_cmp nat_cmp

-- labels by their names, and of one name the one that points forwards first
abbrev pub label_cmp : Label → Label → Ordering
label_cmp first second =
    ordering_then (name_cmp first.name second.name) (bool_cmp first.back second.back)

-- words by their lengths, and of one length label by label
abbrev pub word_cmp : List Label → List Label → Ordering
word_cmp first second =
    ordering_then (nat_cmp (length first) (length second)) (slice_cmp label_cmp first second)

-- pairs by the vertex that they lead from, then by the vertex that they lead to
abbrev pub pair_cmp : Pair → Pair → Ordering
pair_cmp first second =
    ordering_then (name_cmp first.from second.from) (name_cmp first.to second.to)
