-- Paths of edges, and their words.
use Rattle.std.specs.Prelude.{◌≡◌, ◌≢◌, ℕ, List, [], ◌∷◌, map, All, AllPairs, Contains}
use Rattle.rpq_base.specs.declared.data.Label.{Label}
use Rattle.rpq_base.specs.declared.data.Edge.{Edge}

-- the edges lead from one vertex to another: each begins where the one before it ends
abbrev pub Leads : List ℕ → List Edge → List ℕ → Type 0
Leads from [] to = from ≡ to
Leads from (edge ∷ edges) to = (edge.from ≡ from) × Leads edge.to edges to

-- a path from one vertex to another: a nonempty list of the given edges, each as often as one
-- likes, that leads from the one to the other
pub record IsPath (edges : List Edge) (from : List ℕ) (path : List Edge)
    (to : List ℕ) : Type 0 where
  pub some : path ≢ []
  pub members : All (Contains edges) path
  pub leads : Leads from path to

-- the word of a path: its labels, in order
abbrev pub word_of : List Edge → List Label
word_of path = map (λ edge. edge.label) path

-- the vertices of a path from a vertex
abbrev pub vertices : List ℕ → List Edge → List (List ℕ)
vertices from path = from ∷ map (λ edge. edge.to) path

-- a path that visits no vertex twice
abbrev pub IsSimple : List ℕ → List Edge → Type 0
IsSimple from path = AllPairs (λ vertex later. vertex ≢ later) (vertices from path)
