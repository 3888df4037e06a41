-- Queries that a run can be made with.
use Rattle.std.specs.Prelude.{ℕ, ◌≤◌, List, length, All}
use Rattle.containment_laws.specs.Accepted.{IsAccepted}
use Rattle.query_file.specs.Compiled.{CompiledValue, IsCompiled}

-- the most queries of a run
abbrev pub query_limit : ℕ
query_limit = 64

-- the queries of a file: some, not too many, all accepted, and each with its own automaton and
-- verdict
pub record AreUnderstood (queries : List CompiledValue) : Type 0 where
  pub some : 1 ≤ length queries
  pub few : length queries ≤ query_limit
  pub accepted : All (λ each. IsAccepted each.def) queries
  pub compiled : All IsCompiled queries
