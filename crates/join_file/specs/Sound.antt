-- Joins that are over some queries.
use Rattle.std.specs.Prelude.{◌≡◌, ℕ, ◌<◌, ◌⊎◌, All, Contains}
use Rattle.join_file.specs.declared.data.Term.{Term}
use Rattle.join_file.specs.declared.data.Term.TheVariants.{Variable, Vertex}
use Rattle.join_file.specs.declared.data.JoinAtom.{JoinAtom}
use Rattle.join_file.specs.Joins.{JoinValue}

-- the term's variable, if it is one, has a number below this
abbrev pub IsWithin : ℕ → Term → Type 0
IsWithin count (Variable number) = number < count
IsWithin count (Vertex name) = Unit {0}

-- the variables of the atom have numbers below this
pub record IsAtomWithin (count : ℕ) (atom : JoinAtom) : Type 0 where
  pub from : IsWithin count atom.from
  pub to : IsWithin count atom.to

-- the atom has the variable at one of its ends
abbrev pub Mentions : JoinAtom → ℕ → Type 0
Mentions atom number = (atom.from ≡ Variable number) ⊎ (atom.to ≡ Variable number)

-- a join over so many queries: the numbers of the variables in its atoms are exactly those below
-- their number, and the atoms' queries are among these
pub record IsSound (queries : ℕ) (join : JoinValue) : Type 0 where
  pub within : All (IsAtomWithin join.variables) join.atoms
  pub below : All (λ atom. atom.query < queries) join.atoms
  pub all : (number : ℕ) → number < join.variables →
      (each : JoinAtom) × Contains join.atoms each × Mentions each number
