-- What simple paths miss for a language without the property of containment: the two ends of a
-- line, a loop at its end, and a line from there.
use Rattle.std.specs.Prelude.{◌≢◌, ℕ, ◌-◌, ◌≤◌, List, [], ◌∷◌, ◌++◌, length, map, take, drop}
use Rattle.std.specs.Prelude.{AllPairs, None}
use Rattle.rpq_base.specs.declared.data.Label.{Label}
use Rattle.rpq_base.specs.declared.data.Edge.{Edge}
use Rattle.rpq_base.specs.declared.data.Act.TheVariants.{Insert}
use Rattle.rpq_base.specs.declared.data.Entry.{Entry}
use Rattle.rpq_base.specs.declared.data.Pair.{Pair}
use Rattle.rpq_model.specs.declared.mode.Mode.TheVariants.{Arbitrary, Simple}
use Rattle.rpq_model.specs.Window.{WindowValue}
use Rattle.rpq_model.specs.Answers.{IsAnswer}
use Rattle.rpq_model.specs.Relations.{between}
use Rattle.containment_test.specs.Containment.{Shows}
use Rattle.containment_laws.specs.SimplePaths.{query_with}

-- names of which no two are the same
abbrev pub AreDistinct : List (List ℕ) → Type 0
AreDistinct names = AllPairs (λ name later. name ≢ later) names

-- a line of edges from a vertex that spells a word: an edge for each label, each to the next name
abbrev pub line_of : List ℕ → List Label → List (List ℕ) → List Edge
line_of from [] names = []
line_of from (label ∷ word) [] = []
line_of from (label ∷ word) (name ∷ names) =
    record { from = from; label = label; to = name } ∷ line_of name word names

-- the vertex at which a line from a vertex ends
abbrev pub end_of : List ℕ → List Edge → List ℕ
end_of from [] = from
end_of from (edge ∷ line) = end_of edge.to line

-- a loop of edges at a vertex that spells a word: a line that comes back to the vertex
abbrev pub loop_of : List ℕ → List Label → List (List ℕ) → List Edge
loop_of vertex word names = line_of vertex word (take (length word - 1) names ++ vertex ∷ [])

-- from the first vertex a line for p, at its end a loop for q, and from there a line for w, where
-- each vertex after the first has the next of the names
abbrev pub line_loop_line : List ℕ → List (List ℕ) →
    List Label → List Label → List Label → List Edge
line_loop_line first names p q w =
    let line = line_of first p names in
    let turn = end_of first line in
    let names_left = drop (length p) names in
    line ++ (loop_of turn q names_left ++ line_of turn w (drop (length q - 1) names_left))

-- the history of one stream that inserts the edges, one after another, all at one time and with no
-- end of their own
abbrev pub inserts : ℕ → ℕ → List Edge → List Entry
inserts stream time edges =
    map (λ edge. record {
      stream = stream;
      tuple = record { time = time; act = Insert edge None };
    })
    edges

-- a pair of two different vertices that is an answer by all paths and none by simple paths
pub record IsMissed (language : List Label → Type 0) (window : WindowValue)
    (history : List Entry) (pair : Pair) : Type 0 where
  pub differ : pair.from ≢ pair.to
  pub joined : IsAnswer (query_with language Arbitrary window) history pair
  pub missed : IsAnswer (query_with language Simple window) history pair → ⊥

-- for all words that show that a language isn't contained, and all distinct names, as many as the
-- words have labels, or more: over the history of the line, the loop and the line, in every window
-- with a size of at least 1, simple paths miss the pair of the first vertex and the end
abbrev pub SimpleMissesAPair : (List Label → Type 0) → Type 0
SimpleMissesAPair language =
    (p q w : List Label) → Shows language p q w →
    (first : List ℕ) (names : List (List ℕ)) → AreDistinct (first ∷ names) →
    length (p ++ (q ++ w)) ≤ length (first ∷ names) →
    (window : WindowValue) → 1 ≤ window.size → (stream time : ℕ) →
    let edges = line_loop_line first names p q w in
    IsMissed language window (inserts stream time edges) (between first (end_of first edges))
