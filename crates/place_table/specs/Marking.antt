-- Places that are marked.
use Rattle.std.specs.Prelude.{◌≡◌, ◌≤◌, ◌<◌, ◌⊎◌, ℕ, List, Some, Contains, slice_get}
use Rattle.delta_tree.specs.declared.node.NodeId.{NodeId}
use Rattle.place_table.specs.declared.marks.Mark.{Mark}

-- the marks are of no search after this one
abbrev pub AreUpTo : ℕ → List Mark → Type 0
AreUpTo search marks =
    (number : ℕ) (mark : Mark) → slice_get marks number ≡ Some mark → mark.search ≤ search

-- they are all of searches before this one
abbrev pub AreBefore : ℕ → List Mark → Type 0
AreBefore search marks =
    (number : ℕ) (mark : Mark) → slice_get marks number ≡ Some mark → mark.search < search

-- those of this search are of places that are marked
abbrev pub AreOfMarked : ℕ → List NodeId → List Mark → Type 0
AreOfMarked search marked marks = (number : ℕ) (mark : Mark) →
    slice_get marks number ≡ Some mark → mark.search ≡ search → Contains marked mark.id

-- no search comes after this one, whose marks are of places that are marked
pub record AreMarks (search : ℕ) (marked : List NodeId) (marks : List Mark) : Type 0 where
  pub up_to : AreUpTo search marks
  pub of_marked : AreOfMarked search marked marks

-- each mark stood there before, or is this one
abbrev pub AddsOne : List Mark → List Mark → Mark → Type 0
AddsOne old new mark = (number : ℕ) (each : Mark) → slice_get new number ≡ Some each →
    (slice_get old number ≡ Some each) ⊎ (each ≡ mark)
