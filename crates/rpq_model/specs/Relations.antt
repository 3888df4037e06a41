-- Relations between vertices, as lists of pairs: how they are composed and repeated.
-- No public contract cites this file.
use Rattle.std.specs.Prelude.{◌≡◌, ℕ, ◌↔◌, ◌⊎◌, List, [], ◌∷◌, map, Contains}
use Rattle.std.specs.Borrow.{Bor}
use Rattle.std.specs.List.Sorted.{IsStrictlySortedBy}
use Rattle.rpq_base.specs.Order.{pair_cmp}
use Rattle.rpq_base.specs.declared.data.Edge.{Edge}
use Rattle.rpq_base.specs.declared.data.Pair.{Pair}

-- the edges that these references point to
abbrev pub values : List (Bor Edge) → List Edge
values edges = map (λ edge. edge.now) edges

-- the pair of two vertices
abbrev pub between : List ℕ → List ℕ → Pair
between from to = record { from = from; to = to }

-- the vertices that the pairs lead to
abbrev pub targets : List Pair → List (List ℕ)
targets pairs = map (λ pair. pair.to) pairs

-- the pairs are exactly those of the relation, sorted by source and then target, each once
pub record AreExactly (relation : Pair → Type 0) (pairs : List Pair) : Type 0 where
  pub sorted : IsStrictlySortedBy pair_cmp pairs
  pub exact : (pair : Pair) → Contains pairs pair ↔ relation pair

-- the pairs afterwards are those before and those of the relation
abbrev pub Adds : List Pair → List Pair → (Pair → Type 0) → Type 0
Adds before after relation =
    (pair : Pair) → Contains after pair ↔ (Contains before pair ⊎ relation pair)

-- the first pair and one of these after it lead from the pair's source to its target
abbrev pub IsLedOn : Pair → List Pair → Pair → Type 0
IsLedOn first seconds pair =
    (pair.from ≡ first.from) × Contains seconds (between first.to pair.to)

-- a pair of the first list and one of the second after it lead from the pair's source to its target
abbrev pub IsComposed : List Pair → List Pair → Pair → Type 0
IsComposed firsts seconds pair =
    (middle : List ℕ)
    × Contains firsts (between pair.from middle)
    × Contains seconds (between middle pair.to)

-- the pair is one of these, or two of them lead from its source over the vertex to its target
abbrev pub IsPairOver : List Pair → List ℕ → Pair → Type 0
IsPairOver pairs vertex pair =
    Contains pairs pair
    ⊎ (Contains pairs (between pair.from vertex) × Contains pairs (between vertex pair.to))

-- the pairs lead from one vertex over these, one after another, to another
abbrev pub LeadsOver : List Pair → List ℕ → List (List ℕ) → List ℕ → Type 0
LeadsOver pairs from [] to = Contains pairs (between from to)
LeadsOver pairs from (vertex ∷ vertices) to =
    Contains pairs (between from vertex) × LeadsOver pairs vertex vertices to

-- the pairs lead, one or more of them, from the pair's source to its target
abbrev pub IsReached : List Pair → Pair → Type 0
IsReached pairs pair =
    (vertices : List (List ℕ)) × LeadsOver pairs pair.from vertices pair.to
