use Rattle.std.proofs.Common.{◌≡◌, [], length}
use Rattle.std.specs.Prelude.{All}
use Rattle.join_bindings.proofs.query_pairs.no_pairs.Given as goal

-- those so far have no pairs
abbrev pub invariant-loop-query : goal.invariant-loop-query
invariant-loop-query l = (length l.sets.items ≡ l.query) × All (λ pairs. pairs ≡ []) l.sets.items
