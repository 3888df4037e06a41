-- Simple paths, edge by edge: what is left to go after a beginning.
-- No public contract cites this file.
use Rattle.std.specs.Prelude.{◌≡◌, ◌≢◌, ℕ, not, List, [], ◌∷◌, ◌++◌, map, filter, fold, AllPairs}
use Rattle.std.specs.Borrow.{Bor}
use Rattle.rpq_base.specs.Same.{same_name}
use Rattle.rpq_base.specs.declared.data.Label.{Label}
use Rattle.rpq_base.specs.declared.data.Edge.{Edge}
use Rattle.rpq_base.specs.declared.data.Pair.{Pair}
use Rattle.plain_evaluator.specs.declared.simple.Trail.{Trail}
use Rattle.rpq_model.specs.Path.{IsPath, word_of}

-- the names that these references point to
abbrev pub vertices_of : List (Bor (List ℕ)) → List (List ℕ)
vertices_of vertices = map (λ vertex. vertex.now) vertices

-- nothing is left of what a search has put on its trail
pub record IsSameTrail (before after : Trail) : Type 0 where
  pub visited : after.visited.items ≡ before.visited.items
  pub word : after.word.items ≡ before.word.items

-- the edges that don't lead to the vertex
abbrev pub leading_elsewhere : List Edge → List ℕ → List Edge
leading_elsewhere edges vertex = filter (λ edge. not (same_name edge.to vertex)) edges

-- the edges that lead to none of the vertices
abbrev pub unvisited : List Edge → List (List ℕ) → List Edge
unvisited edges visited = fold leading_elsewhere edges visited

-- the targets of a path's edges
abbrev pub targets_of : List Edge → List (List ℕ)
targets_of path = map (λ edge. edge.to) path

-- a path of the edges leads on from a vertex to another, its targets differ, and its word after
-- the given one is in the language
pub record LeadsOn (edges : List Edge) (language : List Label → Type 0) (word : List Label)
    (at : List ℕ) (path : List Edge) (to : List ℕ) : Type 0 where
  pub leads : IsPath edges at path to
  pub apart : AllPairs (λ vertex later. vertex ≢ later) (targets_of path)
  pub within : language (word ++ word_of path)

-- the pair is that of the source and a vertex to which such a path leads
abbrev pub IsOnwards : List Edge → (List Label → Type 0) → List ℕ → List Label → List ℕ →
    Pair → Type 0
IsOnwards edges language from word at pair =
    (pair.from ≡ from) × ((path : List Edge) × LeadsOn edges language word at path pair.to)

-- and the path begins with the edge
abbrev pub IsAlong : List Edge → (List Label → Type 0) → List ℕ → List Label → Edge →
    Pair → Type 0
IsAlong edges language from word edge pair =
    (pair.from ≡ from)
    × ((path : List Edge) × LeadsOn edges language word edge.from (edge ∷ path) pair.to)

-- a path that begins with the edge, and doesn't come back to where it begins, joins the pair
abbrev pub IsSimplyAlong : List Edge → (List Label → Type 0) → Edge → Pair → Type 0
IsSimplyAlong edges language edge pair =
    (edge.to ≢ edge.from)
    × IsAlong (leading_elsewhere edges edge.from) language edge.from [] edge pair
