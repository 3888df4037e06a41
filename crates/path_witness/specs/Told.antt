-- What is told of a path of edges: the positions of their best marks, and the least of the
-- deadlines. Private contracts alone cite this.
use Rattle.std.specs.Prelude.{◌≡◌, ℕ, ◌<◌, min, List, Contains, map, fold, Option, Some, None}
use Rattle.std.specs.Prelude.{slice_get, unwrap_or}
use Rattle.std.specs.List.{AllZip}
use Rattle.rpq_base.specs.declared.data.Edge.{Edge}
use Rattle.rpq_base.specs.declared.data.Entry.{Entry}
use Rattle.rpq_model.specs.Query.{Query}
use Rattle.rpq_model.specs.Window.{clock, edges_at}
use Rattle.path_witness.specs.declared.mark.Mark.{Mark}
use Rattle.path_witness.specs.Found.{IsBestMark}
use Rattle.path_witness.specs.Marks.{MarksValue, StandsFor}
use Rattle.path_witness.specs.Shows.{Shown}

-- the marks stand for a history over which the edge is in the window of the query with this number
pub record IsSeen (marks : MarksValue) (number : ℕ) (edge : Edge) : Type 0 where
  pub history : List Entry
  pub query : Query
  pub stands : StandsFor marks history
  pub there : slice_get marks.queries number ≡ Some query
  pub slide : 0 < query.window.slide
  pub member : Contains (edges_at query.window (clock history) history) edge

-- the mark is the best one of the edge, over each history that the marks stand for
abbrev pub IsBestOf : MarksValue → ℕ → Edge → Mark → Type 0
IsBestOf marks number edge mark = (history : List Entry) (query : Query) →
    slice_get marks.queries number ≡ Some query → StandsFor marks history →
    IsBestMark query.window history edge mark

-- the least of the deadlines so far, where there are any, and another one
abbrev pub least_with : Option ℕ → ℕ → ℕ
least_with None deadline = deadline
least_with (Some other) deadline = min other deadline

-- the least of the marks' deadlines, where there are marks
abbrev pub least_of : List Mark → Option ℕ
least_of marks = fold (λ least (mark : Mark). Some (least_with least mark.deadline)) None marks

-- the edges have marks of this kind, with these positions and this least deadline
pub record AreMarked (kind : Edge → Mark → Type 0) (edges : List Edge) (positions : List ℕ)
    (least : Option ℕ) : Type 0 where
  pub marks : List Mark
  pub each : AllZip kind edges marks
  pub positions_are : map (λ (mark : Mark). mark.position) marks ≡ positions
  pub least_is : least_of marks ≡ least

-- and so they tell what is shown
pub record IsTold (kind : Edge → Mark → Type 0) (edges : List Edge) (shown : Shown) : Type 0 where
  pub least : Option ℕ
  pub marked : AreMarked kind edges shown.positions least
  pub until : shown.until ≡ unwrap_or least 0
