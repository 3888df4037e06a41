-- The states before each state, by the steps of one label. No public contract cites this file.
use Rattle.std.specs.Prelude.{◌≡◌, ℕ, ◌+◌, ◌-◌, ◌<◌, ◌≤◌, Bool, false, eqb, List, [], ◌∷◌, ◌++◌, length, map, filter, Option, None, Some, slice_index, slice_index_or, slice_range}
use Rattle.std.specs.List.{range_with_len}

-- the state that the step of the state by the label leads to
abbrev pub step_in : List (List (Option ℕ)) → ℕ → ℕ → Option ℕ
step_in rows state label = slice_index_or (slice_index_or rows state []) label None

-- the steps lead to states
abbrev pub StayWithin : List (List (Option ℕ)) → Type 0
StayWithin rows = (state label next : ℕ) →
    step_in rows state label ≡ Some next → next < length rows

-- the step leads to the state
abbrev pub is_to : Option ℕ → ℕ → Bool
is_to None state = false
is_to (Some next) state = eqb next state

-- those of the first states whose step by the label leads to the state, in order
abbrev pub befores_in : List (List (Option ℕ)) → ℕ → ℕ → ℕ → List ℕ
befores_in rows label count state =
    filter (λ each. is_to (step_in rows each label) state) (range_with_len 0 count)

-- the list of the state
abbrev pub list_at : List (List ℕ) → ℕ → List ℕ
list_at lists state = slice_index_or lists state []

-- as many lists, all empty
pub record AreEmpty (count : ℕ) (lists : List (List ℕ)) : Type 0 where
  pub as_many : length lists ≡ count
  pub each : (state : ℕ) → list_at lists state ≡ []

-- the list of the target gets the state at its end
pub record AddsAt (target state : ℕ) (before after : List (List ℕ)) : Type 0 where
  pub as_many : length after ≡ length before
  pub here : list_at after target ≡ list_at before target ++ state ∷ []
  pub others : (other : ℕ) → (other ≡ target → ⊥) → list_at after other ≡ list_at before other

-- for each state those of the first states whose step by the label leads to it
pub record AreListed (rows : List (List (Option ℕ))) (label count : ℕ) (lists : List (List ℕ))
    : Type 0 where
  pub as_many : length lists ≡ length rows
  pub each : (state : ℕ) → list_at lists state ≡ befores_in rows label count state

-- for each of the first labels, for each state those whose step leads to it
pub record AreBefores (rows : List (List (Option ℕ))) (labels : ℕ)
    (befores : List (List (List ℕ))) : Type 0 where
  pub as_many : length befores ≡ labels
  pub each : (label : ℕ) → label < labels →
      AreListed rows label (length rows) (slice_index_or befores label [])

-- ---- lists one after another

-- the list at the place, which is from where it starts up to where the next one does
abbrev pub part_at : List ℕ → List ℕ → ℕ → List ℕ
part_at starts states place =
    slice_range states (slice_index starts place) (slice_index starts (place + 1))

-- the lists, by where each starts, and at last by where the last one ends
abbrev pub parts_of : List ℕ → List ℕ → List (List ℕ)
parts_of starts states = map (part_at starts states) (range_with_len 0 (length starts - 1))

-- each list ends where it starts or behind, and within all
abbrev pub AreStarts : List ℕ → List ℕ → Type 0
AreStarts starts states = (place : ℕ) → place + 1 < length starts →
    (slice_index starts place ≤ slice_index starts (place + 1))
    × (slice_index starts (place + 1) ≤ length states)

-- the first of the lists stand one after another
pub record AreJoined (lists : List (List ℕ)) (count : ℕ) (starts states : List ℕ)
    : Type 0 where
  pub as_many : length starts ≡ count + 1
  pub last : slice_index starts count ≡ length states
  pub within : AreStarts starts states
  pub each : (place : ℕ) → place < count → part_at starts states place ≡ list_at lists place
