-- The answers of a path query over the entries that it sees: the pairs joined by a path whose word
-- is in its language.
use Rattle.std.specs.Prelude.{ℕ, ◌↔◌, List, Contains}
use Rattle.std.specs.List.Sorted.{IsStrictlySortedBy}
use Rattle.rpq_base.specs.Order.{pair_cmp}
use Rattle.rpq_base.specs.declared.data.Label.{Label}
use Rattle.rpq_base.specs.declared.data.Edge.{Edge}
use Rattle.rpq_base.specs.declared.data.Entry.{Entry}
use Rattle.rpq_base.specs.declared.data.Pair.{Pair}
use Rattle.rpq_model.specs.declared.mode.Mode.{Mode}
use Rattle.rpq_model.specs.declared.mode.Mode.TheVariants.{Arbitrary, Simple}
use Rattle.rpq_model.specs.Window.{WindowValue, clock, edges_at}
use Rattle.rpq_model.specs.Path.{IsPath, IsSimple, word_of}

-- a path query: its language, the paths that it takes, and its window
pub record PathQuery : Type 1 where
  pub language : List Label → Type 0
  pub mode : Mode
  pub window : WindowValue

-- the paths that a query takes: all, or the simple ones
abbrev pub Takes : Mode → List ℕ → List Edge → Type 0
Takes Arbitrary from path = Unit {0}
Takes Simple from path = IsSimple from path

-- a path of the edges joins the pair; the query takes it, and its word is in the language
pub record Joins (edges : List Edge) (language : List Label → Type 0) (mode : Mode) (pair : Pair)
    (path : List Edge) : Type 0 where
  pub leads : IsPath edges pair.from path pair.to
  pub word : language (word_of path)
  pub taken : Takes mode pair.from path

-- the pair is joined by a path of the edges
abbrev pub IsJoinedBy : List Edge → (List Label → Type 0) → Mode → Pair → Type 0
IsJoinedBy edges language mode pair = (path : List Edge) × Joins edges language mode pair path

-- the pair is an answer over the entries that are live at a clock, which may be any number
abbrev pub IsAnswerAt : PathQuery → ℕ → List Entry → Pair → Type 0
IsAnswerAt query now entries pair =
    IsJoinedBy (edges_at query.window now entries) query.language query.mode pair

-- the pair is an answer over the history: at its clock
abbrev pub IsAnswer : PathQuery → List Entry → Pair → Type 0
IsAnswer query history pair = IsAnswerAt query (clock history) history pair

-- the pairs are exactly the answers at a clock, sorted by source and then target, each once
pub record AreAnswersAt (query : PathQuery) (now : ℕ) (entries : List Entry)
    (pairs : List Pair) : Type 0 where
  pub sorted : IsStrictlySortedBy pair_cmp pairs
  pub exact : (pair : Pair) → Contains pairs pair ↔ IsAnswerAt query now entries pair

-- the pairs are exactly the answers over the history: at its clock
abbrev pub AreAnswers : PathQuery → List Entry → List Pair → Type 0
AreAnswers query history pairs = AreAnswersAt query (clock history) history pairs
