use Rattle.std.proofs.Common.{◌≡◌, ℕ, ◌<◌, length}
use Rattle.std.specs.Prelude.{◌↔◌, IsTrue}
use Rattle.std.specs.List.{slice_get}
use Rattle.dfa_build.specs.PositionSet.{has}
use Rattle.dfa_build.specs.StateSets.{set_at}
use Rattle.dfa_build.proofs.transitions.masks_of.Given as goal

-- there is a set for each label so far
abbrev pub invariant-loop-label : goal.invariant-loop-label
invariant-loop-label l = record {
  as_many : length l.masks.items ≡ l.label-index;
  members : (place position : ℕ) → place < l.label-index →
      IsTrue (has (set_at l.masks.items place) position) ↔ (slice_get l.atoms position ≡ slice_get l.labels place);
}
