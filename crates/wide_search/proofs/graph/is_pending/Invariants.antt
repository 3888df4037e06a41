use Rattle.std.proofs.Common.{◌≡◌, ◌==◌, ℕ, false, take}
use Rattle.std.specs.List.{list_any}
use Rattle.wide_search.proofs.graph.is_pending.Given as goal

abbrev pub invariant-loop-each : goal.invariant-loop-each
invariant-loop-each l =
    list_any (λ (each : ℕ). each == l.state) (take l.each-index l.pending) ≡ false
