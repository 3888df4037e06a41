-- What a line, a loop at its end and a line from there are, by some values.
use Rattle.std.specs.Prelude.{◌≡◌, ℕ, false, List, [], ◌∷◌, codes}
use Rattle.rpq_base.specs.declared.data.Label.{Label}
use Rattle.rpq_base.specs.declared.data.Edge.{Edge}
use Rattle.containment_laws.specs.Lines.{line_loop_line}

-- the label with a name
abbrev pub label_named : List ℕ → Label
label_named name = record { name = name; back = false }

-- the labels a, b, c and d
abbrev pub a : Label
a = label_named (codes "a")

abbrev pub b : Label
b = label_named (codes "b")

abbrev pub c : Label
c = label_named (codes "c")

abbrev pub d : Label
d = label_named (codes "d")

-- the edge from one vertex, by a label, to another
abbrev pub edge_by : List ℕ → Label → List ℕ → Edge
edge_by from label to = record { from = from; label = label; to = to }

-- the names of the vertices after the first
abbrev pub three_names : List (List ℕ)
three_names = codes "x" ∷ codes "y" ∷ codes "z" ∷ []

-- the edges on the vertices s, x, y and z for some words p, q and w
pub record LineExamples : Type 0 where
  -- p = a, q = b c, w = d
  pub in_the_middle :
      line_loop_line (codes "s") three_names (a ∷ []) (b ∷ c ∷ []) (d ∷ [])
      ≡ edge_by (codes "s") a (codes "x") ∷ edge_by (codes "x") b (codes "y")
      ∷ edge_by (codes "y") c (codes "x") ∷ edge_by (codes "x") d (codes "z") ∷ []
  -- p is empty, q = b, w = d
  pub at_the_start :
      line_loop_line (codes "s") three_names [] (b ∷ []) (d ∷ [])
      ≡ edge_by (codes "s") b (codes "s") ∷ edge_by (codes "s") d (codes "x") ∷ []
  -- p = a, q = b c d, w is empty
  pub at_the_end :
      line_loop_line (codes "s") three_names (a ∷ []) (b ∷ c ∷ d ∷ []) []
      ≡ edge_by (codes "s") a (codes "x") ∷ edge_by (codes "x") b (codes "y")
      ∷ edge_by (codes "y") c (codes "z") ∷ edge_by (codes "z") d (codes "x") ∷ []
