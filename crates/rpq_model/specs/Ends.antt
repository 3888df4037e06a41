-- Until when an answer lasts.
use Rattle.std.specs.Prelude.{ℕ, ◌<◌, ◌↔◌, List, [], ◌∷◌, ◌++◌, map, Contains}
use Rattle.std.specs.List.Sorted.{IsStrictlySortedBy}
use Rattle.rpq_base.specs.Order.{pair_cmp}
use Rattle.rpq_base.specs.declared.data.Act.TheVariants.{Tick}
use Rattle.rpq_base.specs.declared.data.Entry.{Entry}
use Rattle.rpq_base.specs.declared.data.Pair.{Pair}
use Rattle.rpq_model.specs.declared.ended.Ended.{Ended}
use Rattle.rpq_model.specs.Answers.{PathQuery, IsAnswer}

-- the entry of the first stream that lets time pass until this clock
abbrev pub tick : ℕ → Entry
tick time = record { stream = 1; tuple = record { time = time; act = Tick } }

-- the history, followed by a tick at this time
abbrev pub with_tick : List Entry → ℕ → List Entry
with_tick history time = history ++ tick time ∷ []

-- the pair is an answer, and this is the least time such that it is none once a tick at it has
-- followed
pub record IsUntil (query : PathQuery) (history : List Entry) (pair : Pair)
    (until : ℕ) : Type 0 where
  pub answer : IsAnswer query history pair
  pub ended : IsAnswer query (with_tick history until) pair → ⊥
  pub lasts : (time : ℕ) → time < until → IsAnswer query (with_tick history time) pair

-- the pairs of answers with their ends
abbrev pub pairs_of : List Ended → List Pair
pairs_of rows = map (λ row. row.pair) rows

-- the rows are exactly the answers over the history, each with its end, sorted by source and then
-- target, each pair once
pub record AreEndedAnswers (query : PathQuery) (history : List Entry)
    (rows : List Ended) : Type 0 where
  pub sorted : IsStrictlySortedBy pair_cmp (pairs_of rows)
  pub exact : (pair : Pair) (until : ℕ) →
      Contains rows (record { pair = pair; until = until }) ↔ IsUntil query history pair until
