-- The table in which the rows of an automaton stand one after another. No public contract cites
-- this file.
use Rattle.std.specs.Prelude.{◌≡◌, ℕ, zero, suc, ◌*◌, Bool, List, [], ◌∷◌, length, take, drop, Option}
use Rattle.rpq_base.specs.declared.data.Label.{Label}
use Rattle.dfa_table.specs.Befores.{AreBefores}
use Rattle.dfa_table.specs.DfaValue.{DfaValue, IsDfa, value_of}

-- the first rows of a table, each of this width
abbrev pub rows_of : ℕ → ℕ → List (Option ℕ) → List (List (Option ℕ))
rows_of width zero steps = []
rows_of width (suc count) steps = take width steps ∷ rows_of width count (drop width steps)

-- the automaton of a table, with a row for each state
abbrev pub value_of_table : List Label → List (Option ℕ) → List Bool → DfaValue
value_of_table labels steps finals =
    value_of labels (rows_of (length labels) (length finals) steps) finals

-- the table has all rows, is that of an automaton, and these are the states before each state
pub record IsTable (labels : List Label) (steps : List (Option ℕ)) (finals : List Bool)
    (befores : List (List (List ℕ))) : Type 0 where
  pub whole : length steps ≡ length finals * length labels
  pub valid : IsDfa (value_of_table labels steps finals)
  pub back :
      AreBefores (value_of_table labels steps finals).rows (length labels) befores
