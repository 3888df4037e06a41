-- A list of which the first items may be gone.
use Rattle.std.specs.Prelude.{◌≡◌, ℕ, ◌+◌, ◌-◌, ◌*◌, ◌≤◌, ◌<◌, ◌^◌, List, ◌++◌, Option, Some}
use Rattle.std.specs.Prelude.{None, length, take, drop, max}

-- all items, how many of the first are gone, and how often some left
pub record KeptListValue (T : Type 0) : Type 0 where
  pub items : List T
  pub base : ℕ
  pub cuts : ℕ

-- the list of which these items are there, and the first ones are those of what it was when some
-- left last
abbrev pub joined : {T : Type 0} → Option (KeptListValue T) → ℕ → List T → KeptListValue T
joined None base there = record { items = there; base = base; cuts = 0 }
joined (Some whole) base there =
    record { items = take base whole.items ++ there; base = base; cuts = whole.cuts + 1 }

-- those that are there are all behind the ones that are gone
pub record IsKeptList (T : Type 0) (items there : List T) (base : ℕ) : Type 0 where
  pub tail : there ≡ drop base items
  pub gone : base ≤ length items
  pub few : length items < 2 ^ 63

-- the list after so many first items were given up: it has the same items, of which no more are
-- gone than that or than were before, and at most twice as many are there as were to stay
pub record Forgets (T : Type 0) (count : ℕ) (before after : KeptListValue T) : Type 0 where
  pub items : after.items ≡ before.items
  pub rises : before.base ≤ after.base
  pub bounded : after.base ≤ max before.base count
  pub few : length before.items - after.base ≤ 2 * (length before.items - count)
