-- Best paths of edges, which marks make paths of entries.
use Rattle.std.specs.Prelude.{◌≡◌, ℕ, List, Some, slice_get}
use Rattle.rpq_base.specs.declared.data.Edge.{Edge}
use Rattle.rpq_base.specs.declared.data.Entry.{Entry}
use Rattle.rpq_base.specs.declared.data.Pair.{Pair}
use Rattle.rpq_model.specs.Query.{Query}
use Rattle.containment_laws.specs.Accepted.{IsAccepted}
use Rattle.index_laws.specs.LawsOfPaths.{IsBestPathOf}
use Rattle.path_witness.specs.Marks.{MarksValue, StandsFor}

-- the marks stand for the history, the query with this number is accepted, and the edges are a best
-- path of it for the pair
pub record IsBestFor (marks : MarksValue) (number : ℕ) (path : List Edge) (history : List Entry)
    (query : Query) (pair : Pair) : Type 0 where
  pub stands : StandsFor marks history
  pub there : slice_get marks.queries number ≡ Some query
  pub accepted : IsAccepted query
  pub best : IsBestPathOf query history pair path
