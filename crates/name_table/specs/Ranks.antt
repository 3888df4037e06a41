-- Ranks of names: their places in the order of names.
use Rattle.std.specs.Prelude.{◌≡◌, ◌≢◌, ◌⊎◌, ℕ, ◌<◌, ◌≤◌, List, length, slice_index, All, Contains}
use Rattle.std.specs.Ordering.{nat_cmp}
use Rattle.rpq_base.specs.Order.{name_cmp}
use Rattle.name_table.specs.Names.{name_at}

-- these are ranks of the names with the first numbers, as many as there are: the one with the lower
-- rank is before the other, and one rank is that of one name
pub record AreRanks (names : List (List ℕ)) (ranks : List ℕ) : Type 0 where
  pub few : length ranks ≤ length names
  pub within : (number : ℕ) → number < length ranks → slice_index ranks number < length ranks
  pub follow : (first second : ℕ) → first < length ranks → second < length ranks →
      nat_cmp (slice_index ranks first) (slice_index ranks second)
      ≡ name_cmp (name_at names first) (name_at names second)

-- ---- what follows is of the table alone

-- no two numbers have one rank, and each rank is below their count
pub record AreApart (ranks : List ℕ) : Type 0 where
  pub within : (number : ℕ) → number < length ranks → slice_index ranks number < length ranks
  pub once : (first second : ℕ) → first < length ranks → second < length ranks →
      slice_index ranks first ≡ slice_index ranks second → first ≡ second

-- one place of a list has this value now, and the others have what they had
pub record Puts (before after : List ℕ) (place value : ℕ) : Type 0 where
  pub long : length after ≡ length before
  pub here : slice_index after place ≡ value
  pub kept : (other : ℕ) → other ≢ place → slice_index after other ≡ slice_index before other

-- each of the first places of a list, so many, is put to the place that the list has there
pub record Inverts (count : ℕ) (list before after : List ℕ) : Type 0 where
  pub long : length after ≡ length before
  pub bound : (place : ℕ) →
      (slice_index after place ≡ slice_index before place) ⊎ (slice_index after place < count)
  pub there : (place : ℕ) → place < count → slice_index after (slice_index list place) < count
  pub back : (place : ℕ) → place < count →
      slice_index list (slice_index after (slice_index list place)) ≡ slice_index list place
  pub kept : (other : ℕ) → ((place : ℕ) → place < count → slice_index list place ≢ other) →
      slice_index after other ≡ slice_index before other

-- the numbers below a count, each at its own place
pub record CountsUp (count : ℕ) (list : List ℕ) : Type 0 where
  pub long : length list ≡ count
  pub own : (number : ℕ) → number < count → slice_index list number ≡ number

-- the numbers below a count, in whatever order
pub record HasAll (count : ℕ) (order : List ℕ) : Type 0 where
  pub long : length order ≡ count
  pub below : All (λ number. number < count) order
  pub each : (number : ℕ) → number < count → Contains order number

-- for each number a place at which it stands in the order
pub record ArePlaces (order places : List ℕ) : Type 0 where
  pub long : length places ≡ length order
  pub within : (number : ℕ) → number < length places → slice_index places number < length places
  pub stands : (number : ℕ) → number < length places →
      slice_index order (slice_index places number) ≡ number
