use Rattle.std.proofs.Common.{◌≡◌, ℕ, ◌<◌, ◌≤◌, ◌+◌, ◌*◌, List, length, take, get_or}
use Rattle.rpq_base.specs.declared.data.Entry.{Entry}
use Rattle.name_table.specs.Names.{KeepsNumbers}
use Rattle.query_file.specs.Compiled.{CompiledValue}
use Rattle.path_engine.specs.Ends.{AreAllFirstEnds}
use Rattle.path_engine.specs.Keeping.{BringsNoName}
use Rattle.path_engine.specs.Labels.{IsTableOf}
use Rattle.path_engine.proofs.ends.first_ends.Given as goal

-- the entries so far have their ends
abbrev pub invariant-loop-entry : goal.invariant-loop-entry
invariant-loop-entry l = record {
  as_many : length l.found.items ≡ l.entry-index;
  kept : KeepsNumbers l.fn.names l.names;
  same : (queries : List CompiledValue) → IsTableOf queries l.labels →
      ((k : ℕ) (d : Entry) → k < l.entry-index →
      BringsNoName (get_or l.entries k d).tuple.act queries) → l.names ≡ l.fn.names;
  grown : length l.names ≤ length l.fn.names + 2 * l.entry-index;
  named : l.named ≡ length l.names;
  ends : (queries : List CompiledValue) → IsTableOf queries l.labels →
      AreAllFirstEnds l.names queries (take l.entry-index l.entries) l.found.items;
}
