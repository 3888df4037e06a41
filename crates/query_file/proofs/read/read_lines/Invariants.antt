use Rattle.std.proofs.Common.{◌≡◌, ◌+◌, ◌≤◌, [], length}
use Rattle.std.specs.List.{All}
use Rattle.text_parts.specs.Lines.{lines}
use Rattle.query_file.specs.Compiled.{IsCompiled}
use Rattle.query_file.specs.Takes.{defs, GivesSo}
use Rattle.query_file.proofs.read.read_lines.Given as goal

-- the file gives what the lines that are left give after the queries so far
abbrev pub invariant-loop-line : goal.invariant-loop-line
invariant-loop-line l = record {
  so_far : GivesSo l.inverses (defs l.queries.items) l.count (lines l.rest) [] 0 (lines l.bytes);
  numbered : l.count + length (lines l.rest) ≡ length (lines l.bytes);
  counted : l.count + length l.rest ≤ length l.bytes;
  few : length l.queries.items ≤ 64;
  compiled : All IsCompiled l.queries.items;
}

-- the bytes that are left
abbrev pub decreases-loop-line : goal.decreases-loop-line
decreases-loop-line l = length l.rest
