-- What histories that queries see alike have in common.
use Rattle.std.specs.Prelude.{ℕ, Bool, ◌↔◌, List, ◌++◌, All}
use Rattle.rpq_base.specs.Plain.{IsPlain}
use Rattle.rpq_base.specs.declared.data.Entry.{Entry}
use Rattle.rpq_base.specs.declared.data.Pair.{Pair}
use Rattle.rpq_base.specs.declared.data.Event.{Event}
use Rattle.rpq_model.specs.Answers.{IsAnswer}
use Rattle.rpq_model.specs.Ends.{IsUntil}
use Rattle.rpq_model.specs.Query.{Query, path_query}
use Rattle.rpq_model.specs.QueryEvents.{AreEntryEvents}
use Rattle.two_way.specs.Doubled.{doubled}
use Rattle.two_way.specs.TwoWay.{walked}
use Rattle.alike_histories.specs.Alike.{SeeAlike, AllSeeAlike}

-- ---- an equivalence, whatever follows

-- a history is seen alike with itself
abbrev pub AlikeToItself : Type 0
AlikeToItself = (queries : List Query) (history : List Entry) → AllSeeAlike queries history history

-- in either order
abbrev pub AlikeInEitherOrder : Type 0
AlikeInEitherOrder = (queries : List Query) (history other : List Entry) →
    AllSeeAlike queries history other → AllSeeAlike queries other history

-- and where two are seen alike with one between them
abbrev pub AlikeByTheMiddle : Type 0
AlikeByTheMiddle = (queries : List Query) (history middle other : List Entry) →
    AllSeeAlike queries history middle → AllSeeAlike queries middle other →
    AllSeeAlike queries history other

-- histories that are seen alike are so with any further entries
abbrev pub AlikeWithMore : Type 0
AlikeWithMore = (queries : List Query) (history other later : List Entry) →
    AllSeeAlike queries history other → AllSeeAlike queries (history ++ later) (other ++ later)

-- ---- what nobody can tell apart

-- a query has the same answers over histories that its window sees alike
abbrev pub AlikeHaveAnswers : Type 0
AlikeHaveAnswers = (query : Query) (history other : List Entry) →
    SeeAlike query.window history other → (pair : Pair) →
    IsAnswer (path_query query) history pair ↔ IsAnswer (path_query query) other pair

-- with the same ends
abbrev pub AlikeHaveEnds : Type 0
AlikeHaveEnds = (query : Query) (history other : List Entry) →
    SeeAlike query.window history other → (pair : Pair) (until : ℕ) →
    IsUntil (path_query query) history pair until ↔ IsUntil (path_query query) other pair until

-- and a further entry brings the same events
abbrev pub AlikeHaveEvents : Type 0
AlikeHaveEvents = (queries : List Query) (history other : List Entry) →
    AllSeeAlike queries history other → (entry : Entry) (events : List Event) →
    AreEntryEvents queries history entry events ↔ AreEntryEvents queries other entry events

-- ---- both ways

-- histories that are seen alike, whose labels point forwards, are so where each entry stands with
-- its inverse
abbrev pub AlikeBothWays : Type 0
AlikeBothWays = (queries : List Query) (history other : List Entry) →
    All IsPlain history → All IsPlain other →
    AllSeeAlike queries history other → AllSeeAlike queries (doubled history) (doubled other)

-- and so, whether queries take edges backwards or not, is what they are evaluated over
abbrev pub AlikeWalked : Type 0
AlikeWalked = (two_way : Bool) (queries : List Query) (history other : List Entry) →
    All IsPlain history → All IsPlain other →
    AllSeeAlike queries history other →
    AllSeeAlike queries (walked two_way history) (walked two_way other)

-- what is evaluated alike is so with any further entries
abbrev pub AlikeWalkedWithMore : Type 0
AlikeWalkedWithMore = (two_way : Bool) (queries : List Query) (history other later : List Entry) →
    AllSeeAlike queries (walked two_way history) (walked two_way other) →
    AllSeeAlike queries (walked two_way (history ++ later)) (walked two_way (other ++ later))
