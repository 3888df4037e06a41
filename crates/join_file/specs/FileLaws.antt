-- What a joins file gives, as laws.
use Rattle.std.specs.Prelude.{◌≡◌, ℕ, ◌<◌, ◌≤◌, List, length, All, Ok}
use Rattle.rpq_model.specs.Query.{Query}
use Rattle.join_file.specs.Joins.{JoinValue}
use Rattle.join_file.specs.Sound.{IsSound}
use Rattle.join_file.specs.JoinsFile.{joins}

-- a file gives at most 32 joins, and each is over the queries and has a variable
abbrev pub JoinsAreSound : Type 0
JoinsAreSound = (queries : List Query) (bytes : List ℕ) (found : List JoinValue) →
    joins queries bytes ≡ Ok found → (length found ≤ 32) × All (IsSound (length queries)) found
    × All (λ join. 0 < join.variables) found
