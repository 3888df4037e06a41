use Rattle.std.proofs.Common.{◌≡◌}
use Rattle.generated_run.proofs.entries.GeneratedEntries.make.Given as goal

-- there are as many entries as the place says
abbrev pub invariant-loop-place : goal.invariant-loop-place
invariant-loop-place l = record {
  many : l.self.count ≡ l._place;
  before : l.self.before ≡ l.initial.self.before;
  wanted : l.self.wanted ≡ l.initial.self.wanted;
}
