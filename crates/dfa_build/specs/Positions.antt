-- The position automaton, as contracts see it: its states are a start and the positions, which
-- are the numbers of the atoms from 0.
use Rattle.std.specs.Prelude.{◌≡◌, ℕ, ◌<◌, ◌≤◌, List, [], ◌∷◌, length, slice_index_or, All, Contains}
use Rattle.std.specs.List.{flat_map, slice_get, AllPairs}
use Rattle.std.specs.Option.{option_to_list}
use Rattle.rpq_base.specs.declared.data.Label.{Label}

-- the label of each position; the positions where a word may begin; where it may end; and for
-- each position those that may stand right after it
pub record PositionsValue : Type 0 where
  pub atoms : List Label
  pub first : List ℕ
  pub last : List ℕ
  pub follow : List (List ℕ)

-- the positions that may stand right after the position
abbrev pub next_of : PositionsValue → ℕ → List ℕ
next_of positions position = slice_index_or positions.follow position []

-- after the position the trace goes on by follow
abbrev pub GoesOn : PositionsValue → ℕ → List ℕ → Type 0
GoesOn positions position [] = Unit {0}
GoesOn positions position (next ∷ trace) =
    Contains (next_of positions position) next × GoesOn positions next trace

-- where the trace from the position ends
abbrev pub end_of : ℕ → List ℕ → ℕ
end_of position [] = position
end_of position (next ∷ trace) = end_of next trace

-- the position automaton can go along the trace: it begins in first, and goes on by follow
abbrev pub IsFront : PositionsValue → List ℕ → Type 0
IsFront positions [] = ⊥
IsFront positions (position ∷ trace) =
    Contains positions.first position × GoesOn positions position trace

-- a nonempty trace that begins in first, goes on by follow, and ends in last
abbrev pub IsTrace : PositionsValue → List ℕ → Type 0
IsTrace positions [] = ⊥
IsTrace positions (position ∷ trace) =
    IsFront positions (position ∷ trace) × Contains positions.last (end_of position trace)

-- the labels that stand at the positions of the trace
abbrev pub spelled : List Label → List ℕ → List Label
spelled labels trace = flat_map (λ position. option_to_list (slice_get labels position)) trace

-- the labels of the atoms at the positions of the trace
abbrev pub spells : PositionsValue → List ℕ → List Label
spells positions trace = spelled positions.atoms trace

-- the position automaton accepts the word: a trace spells it
abbrev pub AcceptsByPositions : PositionsValue → List Label → Type 0
AcceptsByPositions positions word =
    (trace : List ℕ) × IsTrace positions trace × (word ≡ spells positions trace)

-- every member of the list is a position
abbrev pub ArePlaces : PositionsValue → List ℕ → Type 0
ArePlaces positions list = All (λ position. position < length positions.atoms) list

-- at most 64 atoms, follow positions for each, and no number but positions
pub record ArePositions (positions : PositionsValue) : Type 0 where
  pub few : length positions.atoms ≤ 64
  pub rows : length positions.follow ≡ length positions.atoms
  pub first : ArePlaces positions positions.first
  pub last : ArePlaces positions positions.last
  pub follow : All (ArePlaces positions) positions.follow

-- each member is above those before it
abbrev pub IsRising : List ℕ → Type 0
IsRising list = AllPairs ◌<◌ list

-- every list of positions is rising
pub record AreRising (positions : PositionsValue) : Type 0 where
  pub first : IsRising positions.first
  pub last : IsRising positions.last
  pub follow : All IsRising positions.follow
