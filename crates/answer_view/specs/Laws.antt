-- What the definitions are meant to say, as laws.
use Rattle.std.specs.Prelude.{◌≡◌, ◌↔◌, ◌<◌, List, IsSome}
use Rattle.rpq_base.specs.declared.data.Label.{Label}
use Rattle.rpq_base.specs.declared.data.Entry.{Entry}
use Rattle.rpq_base.specs.declared.data.Pair.{Pair}
use Rattle.rpq_model.specs.declared.mode.Mode.{Mode}
use Rattle.rpq_model.specs.Window.{WindowValue}
use Rattle.rpq_model.specs.Answers.{IsAnswer}
use Rattle.rpq_model.specs.Query.{Query}
use Rattle.rpq_model.specs.AnswerLaws.{query_for}
use Rattle.answer_rows.specs.Answers.{Answer, until_of}
use Rattle.answer_view.specs.View.{ViewValue, AreRowsOf, IsViewOf}

-- a query has at most one list of rows over a history
abbrev pub RowsAreOne : (List Label → Type 0) → Type 0
RowsAreOne language =
    (mode : Mode) (window : WindowValue) (history : List Entry) (rows others : List Answer) →
    AreRowsOf (query_for language mode window) history rows →
    AreRowsOf (query_for language mode window) history others → rows ≡ others

-- the rows hold exactly the pairs that are answers
abbrev pub RowsHoldAnswers : (List Label → Type 0) → Type 0
RowsHoldAnswers language =
    (mode : Mode) (window : WindowValue) (history : List Entry) (rows : List Answer) (pair : Pair) →
    0 < window.slide → AreRowsOf (query_for language mode window) history rows →
    IsSome (until_of rows pair) ↔ IsAnswer (query_for language mode window) history pair

-- queries have at most one view over a history
abbrev pub ViewsAreOne : Type 0
ViewsAreOne = (queries : List Query) (history : List Entry) (view other : ViewValue) →
    IsViewOf queries history view → IsViewOf queries history other → view ≡ other
