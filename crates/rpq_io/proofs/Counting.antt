-- Counts of faults over several calls.
use Rattle.std.proofs.Common.{◌≡◌, ℕ, arith}
use Rattle.rpq_io.specs.Counts.{CountsFault}

-- calls that met no fault count none
pub counts_none : (fault : Type 0) (before after : ℕ) → (fault → ⊥) → after ≡ before
    → CountsFault fault before after
counts_none fault before after fine same = record {
  never_falls = omega arith;
  rose = λ met. absurd (fine met);
  quiet = λ _. same;
}

-- a fault by another name is counted alike
pub counts_as : (first second : Type 0) (before after : ℕ) → (first → second) → (second → first)
    → CountsFault first before after → CountsFault second before after
counts_as first second before after there back counts = record {
  never_falls = counts.never_falls;
  rose = λ met. counts.rose (back met);
  quiet = λ fine. counts.quiet (λ met. fine (there met));
}
