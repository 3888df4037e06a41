-- What the objects of this crate have in common.
use Rattle.std.specs.Prelude.{ℕ, List}
use Rattle.standing.specs.Objects.{Numbers}

-- the queries that are wanted, and how many events were heard
pub record CounterValue : Type 0 where
  pub wanted : List ℕ
  pub numbers : Numbers
