-- Roots with numbers, which are taken in the order of the numbers.
use Rattle.std.specs.Prelude.{◌≡◌, ◌==◌, ◌≤◌, ◌<◌, ℕ, cond, min, List, Option, None, Some}
use Rattle.std.specs.Map.{lookup}

-- each root with its number
abbrev pub DuesValue : Type 0
DuesValue = List (ℕ × ℕ)

-- the number of a root, or none where it has none
abbrev pub due_of : DuesValue → ℕ → Option ℕ
due_of dues root = lookup (λ each. root == each) dues

-- the less of a number that may be there and another
abbrev pub lowered : Option ℕ → ℕ → ℕ
lowered None number = number
lowered (Some before) number = min before number

-- the root has this number now, or none, and each other root the one that it had
abbrev pub GivesDue : DuesValue → DuesValue → ℕ → Option ℕ → Type 0
GivesDue old new root number =
    (each : ℕ) → due_of new each ≡ cond (root == each) number (due_of old each)

-- no root has a number that is at most this one
abbrev pub AllLater : DuesValue → ℕ → Type 0
AllLater dues now = (root number : ℕ) → due_of dues root ≡ Some number → now < number

-- the root had a number that is at most this one
abbrev pub IsDueBy : DuesValue → ℕ → ℕ → Type 0
IsDueBy dues now root = (number : ℕ) × (due_of dues root ≡ Some number) × (number ≤ now)
