-- The table behind the names.
use Rattle.std.specs.Prelude.{◌≡◌, ℕ, ◌<◌, ◌^◌, List, length, All}
use Rattle.std.specs.List.{IsDistinct}
use Rattle.std.specs.Map.{keys_of}
use Rattle.rpq_base.specs.Same.{same_name}
use Rattle.name_table.specs.Keys.{sort_key, AreBytes}

-- the names of a table, in their order
abbrev pub names_of : List (List ℕ × ℕ) → List (List ℕ)
names_of entries = keys_of entries

-- beside a name stands its sort key
abbrev pub HasKey : List ℕ × ℕ → Type 0
HasKey entry = (entry.1 ≡ sort_key entry.0) × AreBytes entry.0

-- a table: beside each name stands its sort key, each stands once, and all have numbers
pub record IsTable (entries : List (List ℕ × ℕ)) : Type 0 where
  pub keyed : All HasKey entries
  pub apart : IsDistinct same_name (names_of entries)
  pub few : length entries < 2 ^ 32
