-- The pairs of a query, by their sources and by their targets. Private contracts cite this, and
-- some worked values the word `pair`.
use Rattle.std.specs.Prelude.{◌≡◌, ℕ, ◌↔◌, ◌⊎◌, Bool, true, List, [], Contains, map, flat_map}
use Rattle.std.specs.List.{IsDistinct}
use Rattle.std.specs.Map.{keys_of, lookup}
use Rattle.std.specs.Option.{unwrap_or}
use Rattle.rpq_base.specs.Same.{same_name}
use Rattle.rpq_base.specs.declared.data.Pair.{Pair}

-- for each vertex some others, its row
abbrev pub Rows : Type 0
Rows = List (List ℕ × List (List ℕ))

-- the row of a vertex, which is empty where there is none
abbrev pub row_of : Rows → List ℕ → List (List ℕ)
row_of rows vertex = unwrap_or (lookup (same_name vertex) rows) []

-- the row of the vertex has the other one too, and nothing else has changed
abbrev pub AddsTo : Rows → Rows → List ℕ → List ℕ → Type 0
AddsTo before after vertex other = (from to : List ℕ) → Contains (row_of after from) to
    ↔ (Contains (row_of before from) to ⊎ ((vertex ≡ from) × (other ≡ to)))

-- the row of the vertex lacks the other one, and nothing else has changed
abbrev pub TakesFrom : Rows → Rows → List ℕ → List ℕ → Type 0
TakesFrom before after vertex other = (from to : List ℕ) → Contains (row_of after from) to
    ↔ (Contains (row_of before from) to × (((vertex ≡ from) × (other ≡ to)) → ⊥))

-- the row of the vertex has the other one where it is added, and nothing else has changed
pub record Sets (before after : Rows) (vertex other : List ℕ) (added : Bool) : Type 0 where
  pub apart : IsDistinct same_name (keys_of after)
  pub own : (added ≡ true) ↔ Contains (row_of after vertex) other
  pub others : (from to : List ℕ) → ((vertex ≡ from) × (other ≡ to) → ⊥) →
      Contains (row_of after from) to ↔ Contains (row_of before from) to

-- the pair with these ends
abbrev pub pair : List ℕ → List ℕ → Pair
pair from to = record { from = from; to = to }

-- the pairs of a source with its targets
abbrev pub pairs_from : List ℕ × List (List ℕ) → List Pair
pairs_from entry = map (λ to. pair entry.0 to) entry.1

-- the pairs of all sources with their targets
abbrev pub pairs_of : Rows → List Pair
pairs_of rows = flat_map pairs_from rows

-- each source has one row, and the rows by target have the same pairs
pub record AreSides (sources targets : Rows) : Type 0 where
  pub apart : IsDistinct same_name (keys_of sources)
  pub turned : (from to : List ℕ) →
      Contains (row_of targets to) from ↔ Contains (row_of sources from) to
