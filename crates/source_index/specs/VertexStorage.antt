-- The roots of one vertex as they are kept; no public contract cites these.
use Rattle.std.specs.Prelude.{◌≡◌, ℕ, Bool, false, true, List, [], ◌∷◌, insert}
use Rattle.source_index.specs.Roots.{AddsRoot}
use Rattle.source_index.specs.declared.vertex.VertexStorage.{VertexStorage}
use Rattle.source_index.specs.declared.vertex.VertexStorage.TheVariants.{One, Several}

-- the states, in rising order
abbrev pub states_of : VertexStorage → List ℕ
states_of (One state roots) = state ∷ []
states_of (Several states many) = states.items

-- the roots at each of them, in the same order
abbrev pub many_of : VertexStorage → List (List ℕ)
many_of (One state roots) = roots ∷ []
many_of (Several states many) = many.items

-- whether they are kept as several
abbrev pub are_several : VertexStorage → Bool
are_several (One state roots) = false
are_several (Several states many) = true

-- a state with this root alone was put at its place
pub record Inserts (old new : VertexStorage) (place state root : ℕ) : Type 0 where
  pub roots : List ℕ
  pub single : AddsRoot [] roots root
  pub states : states_of new ≡ insert (states_of old) place state
  pub many : many_of new ≡ insert (many_of old) place roots
