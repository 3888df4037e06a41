-- The events from old answers to new ones.
use Rattle.std.specs.Prelude.{◌≡◌, ℕ, Bool, true, false, not, List, ◌++◌, map, filter, Contains}
use Rattle.std.specs.List.{list_any}
use Rattle.rpq_base.specs.Same.{same_pair}
use Rattle.rpq_base.specs.declared.data.Pair.{Pair}
use Rattle.rpq_base.specs.declared.data.Event.{Event}
use Rattle.answer_rows.specs.Answers.{Answer, pairs, row_of}

-- the event that a query's answers gain the pair, or lose it
abbrev pub event : ℕ → Bool → Pair → Event
event query added pair = record { query = query; added = added; pair = pair }

-- the pairs of the first list that aren't in the second, in their order
abbrev pub without : List Pair → List Pair → List Pair
without firsts others = filter (λ pair. not (list_any (same_pair pair) others)) firsts

-- a removal for each pair of the old answers that isn't in the new ones, then an addition for each
-- pair of the new answers that isn't in the old ones
abbrev pub changes : ℕ → List Answer → List Answer → List Event
changes query old new =
    map (event query false) (without (pairs old) (pairs new))
    ++ map (event query true) (without (pairs new) (pairs old))

-- every source that isn't among these has the same row in both
abbrev pub DifferAtMostIn : List (List ℕ) → List Answer → List Answer → Type 0
DifferAtMostIn sources old new =
    (from : List ℕ) → (Contains sources from → ⊥) → row_of old from ≡ row_of new from
