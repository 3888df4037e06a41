-- The order in which new states come in a list of steps.
use Rattle.std.specs.Prelude.{ℕ, ◌+◌, ◌≤◌, max, List, [], ◌∷◌, Option, Some, None}
use Rattle.std.specs.List.{flat_map}
use Rattle.dfa_table.specs.DfaValue.{DfaValue}

-- a step leads to a state up to the greatest that the steps before it lead to, or to the next one
abbrev pub IsInOrder : ℕ → List (Option ℕ) → Type 0
IsInOrder greatest [] = Unit {0}
IsInOrder greatest (None ∷ steps) = IsInOrder greatest steps
IsInOrder greatest (Some state ∷ steps) =
    (state ≤ greatest + 1) × IsInOrder (max greatest state) steps

-- the greatest state that the steps and those before them lead to
abbrev pub greatest_of : ℕ → List (Option ℕ) → ℕ
greatest_of greatest [] = greatest
greatest_of greatest (None ∷ steps) = greatest_of greatest steps
greatest_of greatest (Some state ∷ steps) = greatest_of (max greatest state) steps

-- the steps of all rows, one row after another
abbrev pub all_steps : List (List (Option ℕ)) → List (Option ℕ)
all_steps rows = flat_map (λ row. row) rows

-- row by row, and in a row label by label, new states come in the order of their numbers
abbrev pub IsInDiscoveryOrder : DfaValue → Type 0
IsInDiscoveryOrder dfa = IsInOrder 0 (all_steps dfa.rows)
