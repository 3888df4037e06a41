use Rattle.std.proofs.Common.{◌≡◌, ℕ, ◌+◌, ◌<◌, ◌≤◌, length, get_or}
use Rattle.query_file.specs.Compiled.{CompiledValue}
use Rattle.query_index.specs.IndexValue.{IndexValue}
use Rattle.query_index.specs.Showing.{StandsStill}
use Rattle.path_engine.proofs.refreshing.refresh_part.Given as goal

-- the indexes so far stand for what they stood for, and the others are as they were
abbrev pub invariant-loop-offset : goal.invariant-loop-offset
invariant-loop-offset l = record {
  as_many : length l.part ≡ length l.fn.part;
  left : (k : ℕ) (d : IndexValue) → l.offset ≤ k → get_or l.part k d ≡ get_or l.fn.part k d;
  done : (k : ℕ) (d : IndexValue) → k < l.offset → (query : CompiledValue) →
      query ≡ get_or l.queries (l.start + k) query →
      StandsStill query l.names (get_or l.fn.part k d) (get_or l.part k d);
}
