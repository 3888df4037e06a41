use Rattle.std.proofs.Common.{arith, sym, ap, ◌∙◌}
use Rattle.text_parts.specs.Lines.{line_length}
use Rattle.text_parts.proofs.LineLengths.{line_length-nil}
use Rattle.rpq_io.proofs.HeldParts.{part_nil}
use Rattle.rpq_io.proofs.line_buffer.LineBuffer.clear.Goals as goal

pub invariant_of-self : goal.invariant_of-self
invariant_of-self c = record {
  order = omega arith;
  within = c.self.invariant.within;
  line = sym (ap line_length (part_nil c.self.inside.bytes.items c.self.inside.end c.self.invariant.within) ∙ line_length-nil);
  removed_order = c.self.invariant.removed_order;
  removed_within = c.self.invariant.removed_within;
}
