use Rattle.std.proofs.Common.{arith, sym}
use Rattle.text_parts.proofs.LineLengths.{line_length-nil}
use Rattle.rpq_io.proofs.line_buffer.LineBuffer.new.Goals as goal

pub invariant_of-result : goal.invariant_of-result
invariant_of-result c = record {
  order = omega arith;
  within = omega arith;
  line = sym line_length-nil;
  removed_order = omega arith;
  removed_within = omega arith;
}
