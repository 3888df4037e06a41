-- Joins of queries: atoms over them.
use Rattle.std.specs.Prelude.{ℕ, List}
use Rattle.join_file.specs.declared.data.JoinAtom.{JoinAtom}

-- a name, the number of the variables, and the atoms
pub record JoinValue : Type 0 where
  pub name : List ℕ
  pub variables : ℕ
  pub atoms : List JoinAtom
