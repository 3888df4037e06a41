-- Marks after one entry more, and where they are looked through. Private contracts alone cite this.
use Rattle.std.specs.Prelude.{◌≡◌, ℕ, ◌+◌, List, [], ◌∷◌, ◌++◌, length, Option, Some, None, Bool}
use Rattle.std.specs.Prelude.{nat_lt, if◌then◌else◌, slice_get}
use Rattle.std.specs.List.{list_any}
use Rattle.std.specs.Map.{lookup}
use Rattle.rpq_base.specs.Same.{same_edge}
use Rattle.rpq_base.specs.TupleValue.{TupleValue}
use Rattle.rpq_base.specs.declared.data.Edge.{Edge}
use Rattle.rpq_base.specs.declared.data.Entry.{Entry}
use Rattle.rpq_model.specs.Query.{Query}
use Rattle.rpq_model.specs.Window.{WindowValue}
use Rattle.rpq_model.specs.WindowLaws.{IsTupleDeadline}
use Rattle.path_witness.specs.declared.mark.Mark.{Mark}
use Rattle.path_witness.specs.Marks.{mark_at, KeepFor}

-- of a mark that may be there and a new one: the new one, unless the other has a later deadline
abbrev pub better : Option Mark → Mark → Mark
better None new = new
better (Some old) new = if nat_lt new.deadline old.deadline then old else new

-- the better of what is there and the mark of this position for a tuple in the window
pub record IsRaised (window : WindowValue) (position : ℕ) (tuple : TupleValue)
    (before : Option Mark) (after : Mark) : Type 0 where
  pub deadline : ℕ
  pub is : IsTupleDeadline window tuple deadline
  pub better : after ≡ better before (record { position = position; deadline = deadline })

-- for each query the better of what is there of an edge's marks and the next one
abbrev pub AreRaised : List Query → ℕ → TupleValue → Option (List Mark) → List Mark → Type 0
AreRaised queries position tuple before after = (number : ℕ) (query : Query) →
    slice_get queries number ≡ Some query →
    (mark : Mark) × (slice_get after number ≡ Some mark)
    × IsRaised query.window position tuple (mark_at number before) mark

-- the edge has these marks, or none, and each other edge those that it had
abbrev pub GivesMarks : List (Edge × List Mark) → List (Edge × List Mark) → Edge →
    Option (List Mark) → Type 0
GivesMarks before after edge marks = (other : Edge) → lookup (same_edge other) after
    ≡ (if same_edge edge other then marks else lookup (same_edge other) before)

-- whether one of the marks has a deadline above the clock
abbrev pub lasts : ℕ → List Mark → Bool
lasts now marks = list_any (λ mark. nat_lt now mark.deadline) marks

-- marks, if there are any and one of them lasts beyond the clock
abbrev pub lasting : ℕ → Option (List Mark) → Option (List Mark)
lasting now None = None
lasting now (Some marks) = if lasts now marks then Some marks else None

-- each edge has the marks that it had, if one of them lasts beyond the clock, else none
abbrev pub LeavesOut : ℕ → List (Edge × List Mark) → List (Edge × List Mark) → Type 0
LeavesOut now before after = (edge : Edge) →
    lookup (same_edge edge) after ≡ lasting now (lookup (same_edge edge) before)

-- for each history with one entry less than this position, the rows take one more entry
abbrev pub TakeOne : List Query → ℕ → Entry → List (Edge × List Mark) →
    List (Edge × List Mark) → Type 0
TakeOne queries position entry before after = (history : List Entry) →
    position ≡ length history + 1 → KeepFor queries history before →
    KeepFor queries (history ++ entry ∷ []) after
