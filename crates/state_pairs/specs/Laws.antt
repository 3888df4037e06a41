-- What the definitions are meant to say, as laws.
use Rattle.std.specs.Prelude.{◌≡◌, ℕ, List, Option}
use Rattle.dfa_table.specs.DfaValue.{DfaValue, IsDfa}
use Rattle.state_pairs.specs.Goals.{GoalGraph, AreLevels}
use Rattle.state_pairs.specs.Pairs.{IsLeastExtra}

-- a graph has one list of levels
abbrev pub OneListOfLevels : Type 0
OneListOfLevels = (graph : GoalGraph) (first second : List (Option ℕ)) →
    AreLevels graph first → AreLevels graph second → first ≡ second

-- of the words that a state accepts beside another one alone is the least
abbrev pub OneLeastExtra : Type 0
OneLeastExtra = (dfa : DfaValue) (beside : Option ℕ) (state : ℕ) (first second : List ℕ) →
    IsDfa dfa → IsLeastExtra dfa beside state first → IsLeastExtra dfa beside state second →
    first ≡ second
