-- Whether edges are a path that a query takes, as tests. Private contracts alone cite this.
use Rattle.std.specs.Prelude.{◌≡◌, ◌≢◌, ℕ, Bool, true, not, ◌&&◌, ◌==◌, List, [], ◌∷◌}
use Rattle.std.specs.Prelude.{All, Contains, map}
use Rattle.std.specs.List.{list_all}
use Rattle.std.specs.Borrow.{Bor}
use Rattle.rpq_base.specs.Same.{same_name, same_pair}
use Rattle.rpq_base.specs.declared.data.Edge.{Edge}
use Rattle.rpq_base.specs.declared.data.Pair.{Pair}
use Rattle.rpq_model.specs.declared.mode.Mode.{Mode}
use Rattle.rpq_model.specs.declared.mode.Mode.TheVariants.{Arbitrary, Simple}
use Rattle.rpq_model.specs.declared.ended.Ended.{Ended}
use Rattle.rpq_model.specs.Window.{Placed}
use Rattle.rpq_model.specs.Path.{Leads, word_of}
use Rattle.rpq_model.specs.Answers.{Takes}
use Rattle.rpq_model.specs.Query.{Query, language_of}
use Rattle.path_witness.specs.Found.{position_of}

-- the edges that these references point to
abbrev pub edges_of : List (Bor Edge) → List Edge
edges_of edges = map (λ edge. edge.now) edges

-- whether the edges lead from one vertex to another
abbrev pub leads_to : List ℕ → List Edge → List ℕ → Bool
leads_to from [] to = same_name from to
leads_to from (edge ∷ edges) to = same_name edge.from from && leads_to edge.to edges to

-- whether none of the edges leads to the vertex
abbrev pub avoids : List ℕ → List Edge → Bool
avoids vertex edges = list_all (λ edge. not (same_name edge.to vertex)) edges

-- whether no two of the edges lead to the same vertex
abbrev pub are_apart : List Edge → Bool
are_apart [] = true
are_apart (edge ∷ edges) = avoids edge.to edges && are_apart edges

-- whether a query with this mode takes a path from the vertex
abbrev pub takes_path : Mode → List ℕ → List Edge → Bool
takes_path Arbitrary from edges = true
takes_path Simple from edges = avoids from edges && are_apart edges

-- some edges lead from the one vertex of the pair to the other, their word is in the query's
-- language, and it takes them
pub record Fits (query : Query) (pair : Pair) (edges : List Edge) : Type 0 where
  pub some : edges ≢ []
  pub leads : Leads pair.from edges pair.to
  pub word : language_of query (word_of edges)
  pub taken : Takes query.mode pair.from edges

-- the entry is among these and has the position
pub record IsAt (live : List Placed) (position : ℕ) (each : Placed) : Type 0 where
  pub seen : Contains live each
  pub position_is : position_of each ≡ position

-- the entries of the path are among these and have the positions
pub record IsPathAt (live : List Placed) (positions : List ℕ) (path : List Placed) : Type 0 where
  pub seen : All (Contains live) path
  pub positions_are : map position_of path ≡ positions

-- no entries among these have the positions
abbrev pub HasNoPathAt : List Placed → List ℕ → Type 0
HasNoPathAt live positions = (path : List Placed) → IsPathAt live positions path → ⊥

-- whether a row is that of the pair with this end
abbrev pub is_row_of : Pair → ℕ → Ended → Bool
is_row_of pair until row = same_pair row.pair pair && (row.until == until)
