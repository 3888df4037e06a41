-- One line after another. No public contract cites this file.
use Rattle.std.specs.Prelude.{ℕ, Bool, List, [], ◌∷◌, ◌++◌, map, Result}
use Rattle.rpq_model.specs.Query.{Query}
use Rattle.query_file.specs.declared.fault.QueryFault.{QueryFault}
use Rattle.query_file.specs.Compiled.{CompiledValue}
use Rattle.query_file.specs.QueryLine.{IsLineOf}
use Rattle.query_file.specs.Queries.{IsPassedOver, IsQueryLine, Gives}

-- the queries without their automata
abbrev pub defs : List CompiledValue → List Query
defs list = map (λ each. each.def) list

-- the queries after one more line: those before it, where it is passed over, and its own behind
-- them otherwise
pub data Takes (inverses : Bool) (before : List Query) (line : List ℕ) : List Query → Type 0 where
  PassesOver : IsPassedOver line → Takes inverses before line before
  TakesOne : (query : Query) → IsQueryLine line → IsLineOf inverses before line query →
      Takes inverses before line (before ++ query ∷ [])

-- what these lines give after so many lines with these queries, others give after others
abbrev pub GivesSo : Bool → List Query → ℕ → List (List ℕ) → List Query → ℕ → List (List ℕ) → Type 0
GivesSo inverses queries count rest before number lines =
    (outcome : Result (List Query) QueryFault) →
    Gives inverses queries count rest outcome → Gives inverses before number lines outcome
