-- Where the sources of a table stand; no public contract cites these.
use Rattle.std.specs.Prelude.{◌≡◌, ◌==◌, ◌↔◌, ℕ, zero, suc, cond, List, Option, None, Some, slice_get, slice_index_or}

-- the place that a mark tells: none by 0, and else its number, counted from 1
abbrev pub place_by : ℕ → Option ℕ
place_by zero = None
place_by (suc place) = Some place

-- the place of a root, or none where it has none
abbrev pub place_of : List ℕ → ℕ → Option ℕ
place_of marks root = place_by (slice_index_or marks root 0)

-- each of the roots has its place, and no other root has one
abbrev pub ArePlaced : List ℕ → List ℕ → Type 0
ArePlaced roots marks = (root place : ℕ) →
    (place_of marks root ≡ Some place) ↔ (slice_get roots place ≡ Some root)

-- each root has the place that it had
abbrev pub SamePlaces : List ℕ → List ℕ → Type 0
SamePlaces old new = (root : ℕ) → place_of new root ≡ place_of old root

-- the root has this place now, or none, and each other root the one that it had
abbrev pub GivesPlace : List ℕ → List ℕ → ℕ → Option ℕ → Type 0
GivesPlace old new root place =
    (each : ℕ) → place_of new each ≡ cond (root == each) place (place_of old each)
