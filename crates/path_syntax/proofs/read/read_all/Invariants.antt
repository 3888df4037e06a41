use Rattle.std.proofs.Common.{◌≡◌, ◌≤◌, drop}
use Rattle.path_syntax.specs.Reading.{read_all, start, IsReady}
use Rattle.path_syntax.specs.Views.{reader_of, mode_of}
use Rattle.path_syntax.proofs.read.read_all.Given as goal

-- what the rest gives from here is what all the bytes give
abbrev pub invariant-loop-byte : goal.invariant-loop-byte
invariant-loop-byte l = record {
  exact : read_all l.inverses (drop l.byte-index l.bytes) (reader_of l.reader) ≡ read_all l.inverses l.bytes start;
  ready : IsReady (mode_of l.reader.state.mode);
  place : l.reader.place ≡ l.byte-index;
  signs : l.reader.signs ≤ 512;
}
