use Rattle.std.proofs.Common.{◌≡◌, ℕ, ◌<◌, [], length, get_or, map}
use Rattle.std.specs.Prelude.{◌↔◌, Contains, IsTrue}
use Rattle.dfa_build.specs.PositionSet.{has}
use Rattle.dfa_build.specs.StateSets.{set_at}
use Rattle.dfa_build.proofs.transitions.sets_of.Given as goal

-- there is a set for each row so far
abbrev pub invariant-loop-row : goal.invariant-loop-row
invariant-loop-row l = record {
  as_many : length l.sets.items ≡ l.row-index;
  members : (place position : ℕ) → place < l.row-index →
      IsTrue (has (set_at l.sets.items place) position) ↔ Contains (get_or (map (λ row. row.items) l.rows) place []) position;
}
