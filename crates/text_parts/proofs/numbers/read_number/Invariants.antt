use Rattle.std.proofs.Common.{◌≡◌, ◌≤◌, take}
use Rattle.text_parts.specs.Numbers.{number_of}
use Rattle.text_parts.proofs.numbers.read_number.Given as goal

abbrev pub invariant-loop-byte : goal.invariant-loop-byte
invariant-loop-byte l = (l.number ≡ number_of (take l.byte-index l.text)) × (l.number ≤ l.most)
