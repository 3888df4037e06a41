-- The answers of several queries at a position of a history, each with its end, and the clock there.
use Rattle.std.specs.Prelude.{◌≡◌, ◌↔◌, ℕ, List, [], length, Some, slice_index_or}
use Rattle.std.specs.List.{AllZip}
use Rattle.rpq_base.specs.declared.data.Entry.{Entry}
use Rattle.rpq_base.specs.declared.data.Pair.{Pair}
use Rattle.rpq_model.specs.Answers.{PathQuery}
use Rattle.rpq_model.specs.Ends.{IsUntil}
use Rattle.rpq_model.specs.Query.{Query, path_query}
use Rattle.rpq_model.specs.Window.{clock as clock_of}
use Rattle.answer_rows.specs.Answers.{Answer, AreRows, until_of}

-- a position, the clock there, and for each query its answers there
pub record ViewValue : Type 0 where
  pub position : ℕ
  pub clock : ℕ
  pub rows : List (List Answer)

-- the answers of the query with this number, from 0
abbrev pub rows_at : ViewValue → ℕ → List Answer
rows_at view query = slice_index_or view.rows query []

-- the rows are those of the query's answers over the history, each with its end
pub record AreRowsOf (query : PathQuery) (history : List Entry) (rows : List Answer)
    : Type 0 where
  pub sorted : AreRows rows
  pub exact : (pair : Pair) (until : ℕ) →
      (until_of rows pair ≡ Some until) ↔ IsUntil query history pair until

-- the view is that of these queries over the whole history
pub record IsViewOf (queries : List Query) (history : List Entry) (view : ViewValue)
    : Type 0 where
  pub position : view.position ≡ length history
  pub clock : view.clock ≡ clock_of history
  pub rows : AllZip (λ query rows. AreRowsOf (path_query query) history rows) queries view.rows
