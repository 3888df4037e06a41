-- The answers that an engine shows.
use Rattle.std.specs.Prelude.{◌≡◌, ℕ, List}
use Rattle.std.specs.List.{AllZip}
use Rattle.answer_view.specs.View.{ViewValue, AreRowsOf}
use Rattle.rpq_base.specs.declared.data.Entry.{Entry}
use Rattle.rpq_model.specs.Query.{Query, path_query}
use Rattle.rpq_model.specs.Window.{clock as clock_of}

-- the view says this position and the clock of the history, and its rows are those of the queries'
-- answers over the history
pub record IsViewAt (position : ℕ) (queries : List Query) (history : List Entry) (view : ViewValue)
    : Type 0 where
  pub says : view.position ≡ position
  pub clock : view.clock ≡ clock_of history
  pub rows : AllZip (λ query rows. AreRowsOf (path_query query) history rows) queries view.rows
