-- What the definitions are meant to say, as laws.
use Rattle.std.specs.Prelude.{◌≡◌, ℕ, ◌+◌, ◌-◌, ◌*◌, ◌^◌, ◌<◌, ◌≤◌}
use Rattle.std.specs.Prelude.{[], ◌∷◌, ◌++◌, length, map, All, None}
use Rattle.rpq_base.specs.Names.{IsName}
use Rattle.rpq_base.specs.Plain.{IsPlainTuple, IsPlain}
use Rattle.rpq_base.specs.TupleValue.{IsInRange}
use Rattle.rpq_base.specs.declared.data.Edge.{Edge}
use Rattle.rpq_base.specs.declared.data.Act.{Act}
use Rattle.rpq_base.specs.declared.data.Act.TheVariants.{Insert, Delete, Tick}
use Rattle.rpq_base.specs.declared.data.Tuple.{Tuple}
use Rattle.tuple_generator.specs.Seeds.{seed, drawn}
use Rattle.tuple_generator.specs.Generator.{tuple_of, generated_tuple, seed_before, seed_after}
use Rattle.tuple_generator.specs.Generator.{tuple_at, generated_tuples, entry_at, generated_history}

-- each seed is below 2^31
abbrev pub SeedsAreSmall : Type 0
SeedsAreSmall = (place : ℕ) → seed place < 2 ^ 31

-- the first tuple is made with the seed 1, and each other one with the seed after the one before
pub record SeedsGoOn : Type 0 where
  pub first : seed_before 1 ≡ 1
  pub next : (position : ℕ) → 1 ≤ position →
      seed_before (position + 1) ≡ seed_after (seed_before position)

-- the numbers that are drawn make the tuples in their order, three for each, from position 1 on
abbrev pub TuplesByDraws : Type 0
TuplesByDraws =
    (position : ℕ) → 1 ≤ position
    → tuple_at position
    ≡ tuple_of position (drawn (3 * position - 2)) (drawn (3 * position - 1)) (drawn (3 * position))

-- the vertices and the label of an edge have names in form
pub record HasNames (edge : Edge) : Type 0 where
  pub from : IsName edge.from
  pub label : IsName edge.label.name
  pub to : IsName edge.to

-- an act of an edge with names in form, without an end of its own
abbrev pub IsDrawnAct : Act → Type 0
IsDrawnAct (Insert edge until) = HasNames edge × (until ≡ None)
IsDrawnAct (Delete edge) = HasNames edge
IsDrawnAct Tick = ⊥

-- a tuple with this time, of an act of an edge whose label points forwards and whose names are in
-- form
pub record IsDrawn (position : ℕ) (tuple : Tuple) : Type 0 where
  pub time : tuple.time ≡ position
  pub plain : IsPlainTuple tuple
  pub names : IsDrawnAct tuple.act

-- whatever the seed, so are the tuples that are generated
abbrev pub GeneratedTuplesArePlain : Type 0
GeneratedTuplesArePlain = (position before : ℕ) → IsDrawn position (generated_tuple position before)

-- the history of no tuples is empty, and that of one tuple more has its entry at the end
pub record HistoryTakesOneMore : Type 0 where
  pub none : generated_history 0 ≡ []
  pub more : (count : ℕ) →
      generated_history (count + 1) ≡ generated_history count ++ entry_at (count + 1) ∷ []

-- the history of so many tuples has them as its entries, each of stream 1 and plain, and where
-- there are at most a million, in range
pub record HistoryIsOfFirstStream : Type 0 where
  pub tuples : (count : ℕ) →
      map (λ entry. entry.tuple) (generated_history count) ≡ generated_tuples count
  pub many : (count : ℕ) → length (generated_history count) ≡ count
  pub stream : (count : ℕ) → All (λ entry. entry.stream ≡ 1) (generated_history count)
  pub plain : (count : ℕ) → All IsPlain (generated_history count)
  pub range : (count : ℕ) → count ≤ 1000000
      → All (λ entry. IsInRange entry.tuple.time entry.tuple.act) (generated_history count)
