use Rattle.std.proofs.Common.{ℕ, take}
use Rattle.std.specs.Prelude.{All}
use Rattle.delta_tree.specs.Nodes.{node_id}
use Rattle.source_tree.specs.Telling.{IsBeside}
use Rattle.source_tree.proofs.ends.stands_with.Given as goal

-- no node stands beside the shifts with a state so far
abbrev pub invariant-loop-state : goal.invariant-loop-state
invariant-loop-state l = All (λ (state : ℕ).
    IsBeside l.product.finals l.tree l.vertex l.run (node_id l.vertex state) → ⊥)
    (take l.state-index l.states)
