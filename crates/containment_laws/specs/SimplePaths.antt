-- What simple paths do for a language with the property of containment.
use Rattle.std.specs.Prelude.{◌≢◌, ◌↔◌, ℕ, not, List, filter}
use Rattle.rpq_base.specs.Same.{same_name}
use Rattle.rpq_base.specs.declared.data.Label.{Label}
use Rattle.rpq_base.specs.declared.data.Edge.{Edge}
use Rattle.rpq_base.specs.declared.data.Entry.{Entry}
use Rattle.rpq_base.specs.declared.data.Pair.{Pair}
use Rattle.rpq_model.specs.declared.mode.Mode.{Mode}
use Rattle.rpq_model.specs.declared.mode.Mode.TheVariants.{Arbitrary, Simple}
use Rattle.rpq_model.specs.Window.{WindowValue}
use Rattle.rpq_model.specs.Answers.{IsJoinedBy, IsAnswerAt, AreAnswersAt, PathQuery}
use Rattle.containment_test.specs.Containment.{Contained}

-- simple paths join each pair of two vertices that any path joins, whatever edges there are
abbrev pub SimplePathsSuffice : (List Label → Type 0) → Type 0
SimplePathsSuffice language = (edges : List Edge) (pair : Pair) →
    pair.from ≢ pair.to → IsJoinedBy edges language Arbitrary pair →
    IsJoinedBy edges language Simple pair

-- they do exactly where the language has the property of containment
abbrev pub ContainedIsSimple : (List Label → Type 0) → Type 0
ContainedIsSimple language = Contained language ↔ SimplePathsSuffice language

-- the query with this language, these paths and this window
abbrev pub query_with : (List Label → Type 0) → Mode → WindowValue → PathQuery
query_with language mode window =
    record { language = language; mode = mode; window = window }

-- where a language has the property, two vertices are an answer by simple paths exactly where they
-- are one by all paths: over every history, at every clock, in every window
abbrev pub ContainedAnswersAgree : (List Label → Type 0) → Type 0
ContainedAnswersAgree language = Contained language →
    (window : WindowValue) (now : ℕ) (entries : List Entry) (pair : Pair) →
    pair.from ≢ pair.to →
    IsAnswerAt (query_with language Simple window) now entries pair
    ↔ IsAnswerAt (query_with language Arbitrary window) now entries pair

-- the pairs of two different vertices, in their order
abbrev pub apart : List Pair → List Pair
apart pairs = filter (λ pair. not (same_name pair.from pair.to)) pairs

-- and so the list of the answers by simple paths is the one by all paths without the pairs of one
-- vertex
abbrev pub SimpleAnswersFromAll : (List Label → Type 0) → Type 0
SimpleAnswersFromAll language = Contained language →
    (window : WindowValue) (now : ℕ) (entries : List Entry) (pairs : List Pair) →
    AreAnswersAt (query_with language Arbitrary window) now entries pairs →
    AreAnswersAt (query_with language Simple window) now entries (apart pairs)
