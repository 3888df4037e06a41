use Rattle.std.proofs.Common.{◌≡◌, ◌+◌, ◌≤◌, length}
use Rattle.text_parts.specs.Lines.{lines}
use Rattle.text_parts.specs.Reading.{reached}
use Rattle.text_parts.proofs.reading.read_lines.Given as goal

-- the text gives what the lines that are left give after what is reached so far
abbrev pub invariant-loop-line : goal.invariant-loop-line
invariant-loop-line g l = record {
  so_far : reached (g.R.TextReader.step l.reader) l.count l.progress (lines l.rest)
      ≡ reached (g.R.TextReader.step l.reader) 0 l.fn.start (lines l.bytes);
  counted : l.count + length l.rest ≤ length l.bytes;
  numbered : l.count + length (lines l.rest) ≡ length (lines l.bytes);
}

-- the bytes that are left
abbrev pub decreases-loop-line : goal.decreases-loop-line
decreases-loop-line g l = length l.rest
