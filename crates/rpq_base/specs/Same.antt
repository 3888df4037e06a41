-- Equal names, labels, edges and pairs, as tests.
use Rattle.std.specs.Prelude.{ℕ, Bool, not, ◌==◌, ◌&&◌, List, if◌then◌else◌}
use Rattle.std.specs.Cmp.Lexicographic.{pointwise}
use Rattle.rpq_base.specs.declared.data.Label.{Label}
use Rattle.rpq_base.specs.declared.data.Edge.{Edge}
use Rattle.rpq_base.specs.declared.data.Pair.{Pair}

-- names with the same bytes
abbrev pub same_name : List ℕ → List ℕ → Bool
same_name = pointwise ◌==◌

-- labels with the same name and direction
abbrev pub same_label : Label → Label → Bool
same_label first second =
    same_name first.name second.name && (if first.back then second.back else not second.back)

-- edges with the same source, label and target
abbrev pub same_edge : Edge → Edge → Bool
same_edge first second =
    same_name first.from second.from && same_label first.label second.label
    && same_name first.to second.to

-- pairs with the same vertices
abbrev pub same_pair : Pair → Pair → Bool
same_pair first second = same_name first.from second.from && same_name first.to second.to
