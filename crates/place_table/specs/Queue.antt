-- The order in which the nodes of a table leave it.
use Rattle.std.specs.Prelude.{◌≡◌, ℕ, ◌≤◌, ◌<◌, nat_lt, cond, List, ◌++◌, ◌∷◌, [], Option, None, Some, Contains, sum_by}
use Rattle.due_queue.specs.declared.due.Due.{Due}
use Rattle.due_queue.specs.Queue.{due}
use Rattle.delta_tree.specs.declared.node.NodeId.{NodeId}
use Rattle.place_table.specs.declared.gain.Lost.{Lost}
use Rattle.place_table.specs.declared.spot.Spot.{Spot}
use Rattle.place_table.specs.declared.place.Kept.{Kept}
use Rattle.place_table.specs.Kept.{Placed, kept_at}

-- a root at a place
abbrev pub spot : ℕ → NodeId → Spot
spot root id = record { root = root; id = id }

-- each node is noted with a value that is at most its own
abbrev pub AreNoted : List Placed → List (Due Spot) → Type 0
AreNoted places dues = (root : ℕ) (id : NodeId) (kept : Kept) → kept_at places root id ≡ Some kept →
    (value : ℕ) × (value ≤ kept.value) × Contains dues (due (spot root id) value)

-- for how many the clock has come
abbrev pub pending : ℕ → List (Due Spot) → ℕ
pending now dues = sum_by (λ (each : Due Spot). cond (nat_lt now each.number) 0 1) dues

-- what was noted still is
abbrev pub KeepsNoted : List (Due Spot) → List (Due Spot) → Type 0
KeepsNoted old new = (each : Due Spot) → Contains old each → Contains new each

-- what is above the clock, else nothing
abbrev pub alive : ℕ → Option Kept → Option Kept
alive now None = None
alive now (Some kept) = cond (nat_lt now kept.value) (Some kept) None

-- what is kept there has this value, which is at most the clock
abbrev pub IsDueWith : List Placed → ℕ → ℕ → NodeId → ℕ → Type 0
IsDueWith places now root id value =
    (kept : Kept) × (kept_at places root id ≡ Some kept) × (kept.value ≡ value) × (value ≤ now)

-- no such thing is
abbrev pub IsNotDue : List Placed → ℕ → ℕ → NodeId → Type 0
IsNotDue places now root id =
    (kept : Kept) → kept_at places root id ≡ Some kept → now < kept.value

-- the root lost its node at this place, which had this value
abbrev pub lost_of : Spot → ℕ → Lost
lost_of one value = record { root = one.root; id = one.id; before = value }

-- the list with one more, where a value was lost
abbrev pub with_lost : List Lost → Spot → Option ℕ → List Lost
with_lost all one None = all
with_lost all one (Some value) = all ++ lost_of one value ∷ []
