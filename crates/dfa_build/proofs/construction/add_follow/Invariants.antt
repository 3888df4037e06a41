use Rattle.std.proofs.Common.{◌≡◌, ℕ, ◌<◌, ◌≤◌, ◌||◌, ◌&&◌}
use Rattle.dfa_build.specs.PositionSet.{has, row_has}
use Rattle.dfa_build.proofs.construction.add_follow.Given as goal

abbrev pub invariant-loop-position : goal.invariant-loop-position
invariant-loop-position l = record {
  done : (p q : ℕ) → p < l.position → row_has l.follow p q ≡ (row_has l.fn.follow p q || (has l.before p && has l.after q));
  left : (p q : ℕ) → l.position ≤ p → row_has l.follow p q ≡ row_has l.fn.follow p q;
}
