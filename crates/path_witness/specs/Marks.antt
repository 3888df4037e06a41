-- Marks, and the histories that they stand for.
use Rattle.std.specs.Prelude.{◌≡◌, ℕ, ◌+◌, ◌<◌, List, length, Option, Some, None, IfSome}
use Rattle.std.specs.Prelude.{nat_lt, if◌then◌else◌, slice_get}
use Rattle.std.specs.Map.{lookup}
use Rattle.std.specs.Option.{option_and_then}
use Rattle.rpq_base.specs.Same.{same_edge}
use Rattle.rpq_base.specs.declared.data.Edge.{Edge}
use Rattle.rpq_base.specs.declared.data.Entry.{Entry}
use Rattle.rpq_model.specs.Query.{Query}
use Rattle.rpq_model.specs.Window.{WindowValue, clock}
use Rattle.rpq_model.specs.WindowLaws.{IsUndeletedAt, IsTupleDeadline}
use Rattle.path_witness.specs.declared.mark.Mark.{Mark}
use Rattle.path_witness.specs.Found.{IsAtMost, IsFound}

-- the queries; how many entries were taken; the greatest time among them; and for each edge of
-- which an entry may be live its marks, one for each query
pub record MarksValue : Type 0 where
  pub queries : List Query
  pub taken : ℕ
  pub clock : ℕ
  pub rows : List (Edge × List Mark)

-- the mark for the query with this number, among those of an edge that may be there
abbrev pub mark_at : ℕ → Option (List Mark) → Option Mark
mark_at query found = option_and_then (λ marks. slice_get marks query) found

-- what is kept for an edge and the query with this number
abbrev pub kept_mark : List (Edge × List Mark) → Edge → ℕ → Option Mark
kept_mark rows edge query = mark_at query (lookup (same_edge edge) rows)

-- the mark has the position and the deadline of an entry that inserts the edge and that no later
-- one deletes, in the window or not
pub record IsMarkOf (window : WindowValue) (history : List Entry) (edge : Edge)
    (mark : Mark) : Type 0 where
  pub place : ℕ
  pub entry : Entry
  pub undeleted : IsUndeletedAt history edge place entry
  pub position : mark.position ≡ place + 1
  pub deadline : IsTupleDeadline window entry.tuple mark.deadline

-- what is kept for an edge suffices: it is the mark of one of its entries, and above the clock no
-- other has a later deadline, or the same and a later position
pub record Suffices (window : WindowValue) (history : List Entry) (edge : Edge)
    (kept : Option Mark) : Type 0 where
  pub one : IfSome kept (IsMarkOf window history edge)
  pub best : (other : Mark) → IsMarkOf window history edge other →
      clock history < other.deadline → (mark : Mark) × (kept ≡ Some mark) × IsAtMost other mark

-- the rows keep for each edge and each query what suffices
abbrev pub KeepFor : List Query → List Entry → List (Edge × List Mark) → Type 0
KeepFor queries history rows = (edge : Edge) (number : ℕ) (query : Query) →
    slice_get queries number ≡ Some query →
    Suffices query.window history edge (kept_mark rows edge number)

-- the marks stand for the history: they took each of its entries, have its clock, and keep for each
-- edge and each query what suffices
pub record StandsFor (marks : MarksValue) (history : List Entry) : Type 0 where
  pub counted : marks.taken ≡ length history
  pub time : marks.clock ≡ clock history
  pub kept : KeepFor marks.queries history marks.rows

-- a mark that may be there, if its deadline is above the clock
abbrev pub mark_above : ℕ → Option Mark → Option Mark
mark_above now None = None
mark_above now (Some mark) = if nat_lt now mark.deadline then Some mark else None

-- one mark for each edge is enough: what suffices gives the best mark by the clock alone
abbrev pub OneMarkIsEnough : Type 0
OneMarkIsEnough = (window : WindowValue) (history : List Entry) (edge : Edge)
    (kept : Option Mark) → 0 < window.slide → Suffices window history edge kept →
    IsFound window history edge (mark_above (clock history) kept)
