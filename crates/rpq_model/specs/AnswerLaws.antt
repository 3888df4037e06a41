-- What the definitions of answers are meant to say, as laws.
use Rattle.std.specs.Prelude.{◌≡◌, ◌≢◌, ℕ, ◌<◌, ◌≤◌, ◌↔◌, max, List, [], ◌∷◌, ◌++◌, Contains}
use Rattle.rpq_base.specs.declared.data.Label.{Label}
use Rattle.rpq_base.specs.declared.data.Edge.{Edge}
use Rattle.rpq_base.specs.declared.data.Act.TheVariants.{Tick}
use Rattle.rpq_base.specs.declared.data.Entry.{Entry}
use Rattle.rpq_base.specs.declared.data.Pair.{Pair}
use Rattle.rpq_model.specs.declared.mode.Mode.{Mode}
use Rattle.rpq_model.specs.declared.mode.Mode.TheVariants.{Arbitrary, Simple}
use Rattle.rpq_model.specs.Window.{WindowValue, clock}
use Rattle.rpq_model.specs.Answers.{PathQuery, IsJoinedBy, IsAnswerAt, IsAnswer, AreAnswersAt}
use Rattle.rpq_model.specs.Answers.{AreAnswers}
use Rattle.rpq_model.specs.declared.ended.Ended.{Ended}
use Rattle.rpq_model.specs.Ends.{IsUntil, AreEndedAnswers, pairs_of}
use Rattle.rpq_model.specs.WindowLaws.{IsLiveDeadline}
use Rattle.rpq_model.specs.Query.{Query, path_query}

-- the path query with this language
abbrev pub query_for : (List Label → Type 0) → Mode → WindowValue → PathQuery
query_for language mode window = record { language = language; mode = mode; window = window }

-- a query has at most one list of answers at a clock
abbrev pub AnswersAreOne : (List Label → Type 0) → Type 0
AnswersAreOne language =
    (mode : Mode) (window : WindowValue) (now : ℕ) (entries : List Entry)
    (pairs others : List Pair) →
    AreAnswersAt (query_for language mode window) now entries pairs →
    AreAnswersAt (query_for language mode window) now entries others → pairs ≡ others

-- a query that takes all paths has a list of answers over each history
abbrev pub HistoriesHaveAnswers : Type 0
HistoriesHaveAnswers = (query : Query) (history : List Entry) → query.mode ≡ Arbitrary →
    (pairs : List Pair) × AreAnswers (path_query query) history pairs

-- a pair stops being an answer at one clock at most
abbrev pub UntilIsOne : (List Label → Type 0) → Type 0
UntilIsOne language =
    (mode : Mode) (window : WindowValue) (history : List Entry) (pair : Pair) (until other : ℕ) →
    IsUntil (query_for language mode window) history pair until →
    IsUntil (query_for language mode window) history pair other → until ≡ other

-- a tick moves the clock and nothing else: the answers over a history followed by it are those over
-- the history's entries at the greater of the clock and its time
abbrev pub TickMovesTheClock : (List Label → Type 0) → Type 0
TickMovesTheClock language =
    (mode : Mode) (window : WindowValue) (history : List Entry) (tick : Entry) (pair : Pair) →
    tick.tuple.act ≡ Tick →
    IsAnswer (query_for language mode window) (history ++ tick ∷ []) pair
    ↔ IsAnswerAt (query_for language mode window)
    (max (clock history) tick.tuple.time) history pair

-- the empty word brings no pair: a language with the same other words gives the same answers
abbrev pub EmptyWordBringsNoPair : (List Label → Type 0) → (List Label → Type 0) → Type 0
EmptyWordBringsNoPair language other =
    ((word : List Label) → word ≢ [] → language word ↔ other word) →
    (mode : Mode) (window : WindowValue) (now : ℕ) (entries : List Entry) (pair : Pair) →
    IsAnswerAt (query_for language mode window) now entries pair
    ↔ IsAnswerAt (query_for other mode window) now entries pair

-- an answer of a simple query has two vertices
abbrev pub SimpleAnswersAreApart : (List Label → Type 0) → Type 0
SimpleAnswersAreApart language =
    (window : WindowValue) (now : ℕ) (entries : List Entry) (pair : Pair) →
    IsAnswerAt (query_for language Simple window) now entries pair → pair.from ≢ pair.to

-- more edges join more, so answers depend on the set of live edges alone
abbrev pub MoreEdgesJoinMore : (List Label → Type 0) → Type 0
MoreEdgesJoinMore language = (mode : Mode) (edges others : List Edge) (pair : Pair) →
    ((edge : Edge) → Contains edges edge → Contains others edge) →
    IsJoinedBy edges language mode pair → IsJoinedBy others language mode pair

-- a later clock answers less
abbrev pub LaterAnswersLess : (List Label → Type 0) → Type 0
LaterAnswersLess language =
    (mode : Mode) (window : WindowValue) (now later : ℕ) (entries : List Entry) (pair : Pair) →
    0 < window.slide → now ≤ later →
    IsAnswerAt (query_for language mode window) later entries pair →
    IsAnswerAt (query_for language mode window) now entries pair

-- from the clock of the history on, an answer lasts exactly below its end
abbrev pub LastsBelowItsEnd : (List Label → Type 0) → Type 0
LastsBelowItsEnd language =
    (mode : Mode) (window : WindowValue) (history : List Entry) (pair : Pair) (until now : ℕ) →
    0 < window.slide → clock history ≤ now →
    IsUntil (query_for language mode window) history pair until →
    IsAnswerAt (query_for language mode window) now history pair ↔ (now < until)

-- each answer ends: it can't be that no time is its end
abbrev pub AnswersEnd : (List Label → Type 0) → Type 0
AnswersEnd language =
    (mode : Mode) (window : WindowValue) (history : List Entry) (pair : Pair) →
    0 < window.slide → IsAnswer (query_for language mode window) history pair →
    ((until : ℕ) → IsUntil (query_for language mode window) history pair until → ⊥) → ⊥

-- an end is the deadline of an entry that is live at the clock of the history
abbrev pub EndsAreDeadlines : (List Label → Type 0) → Type 0
EndsAreDeadlines language =
    (mode : Mode) (window : WindowValue) (history : List Entry) (pair : Pair) (until : ℕ) →
    0 < window.slide → IsUntil (query_for language mode window) history pair until →
    IsLiveDeadline window (clock history) history until

-- a query has at most one list of its answers with their ends
abbrev pub EndedAnswersAreOne : (List Label → Type 0) → Type 0
EndedAnswersAreOne language =
    (mode : Mode) (window : WindowValue) (history : List Entry) (rows others : List Ended) →
    AreEndedAnswers (query_for language mode window) history rows →
    AreEndedAnswers (query_for language mode window) history others → rows ≡ others

-- the pairs of the answers with their ends are exactly the answers
abbrev pub EndedAnswersAreAnswers : (List Label → Type 0) → Type 0
EndedAnswersAreAnswers language =
    (mode : Mode) (window : WindowValue) (history : List Entry) (rows : List Ended) →
    0 < window.slide → AreEndedAnswers (query_for language mode window) history rows →
    AreAnswers (query_for language mode window) history (pairs_of rows)
