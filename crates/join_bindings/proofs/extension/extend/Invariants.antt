use Rattle.std.specs.Prelude.{◌↔◌, ◌⊎◌, Contains, List, ℕ}
use Rattle.std.proofs.Common.{take}
use Rattle.join_bindings.specs.Partial.{Bound, Agrees, Covers, Closes, IsMetBy}
use Rattle.join_bindings.proofs.extension.extend.Given as goal

-- what one of the pairs so far gives is added
abbrev pub invariant-loop-ends : goal.invariant-loop-ends
invariant-loop-ends l = record {
  covers : (names : List (List ℕ)) → Covers l.out.items names
      ↔ (Covers l.fn.out.items names ⊎ (Agrees l.bound names × IsMetBy (take l.ends-index l.ends-items) names l.atom));
  closes : (more : Bound) → Contains l.out.items more → Contains l.fn.out.items more ⊎ Closes l.bound l.atom more;
}
