use Rattle.std.proofs.Common.{◌≡◌, ◌++◌, take}
use Rattle.std.specs.Prelude.{codes, decimal, flat_map}
use Rattle.rpq_text.proofs.block.push_positions.Given as goal

-- the positions so far
abbrev pub invariant-loop-position : goal.invariant-loop-position
invariant-loop-position l = l.text.items ≡ l.initial.text.items
    ++ flat_map (λ position. codes " " ++ decimal position) (take l.position-index l.positions)
