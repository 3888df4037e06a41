use Rattle.std.proofs.Common.{◌+◌, arith, sym, ap, ◌∙◌}
use Rattle.text_parts.proofs.LineLengths.{line_length_within, line_length_rest}
use Rattle.rpq_io.proofs.line_buffer.line_length_from.Goals as goal

pub slice_bounds-line_length-count : goal.slice_bounds-line_length-count
slice_bounds-line_length-count c = omega (arith, line_length_within c.args.bytes.now)

pub slice_bounds-line_length-start : goal.slice_bounds-line_length-start
slice_bounds-line_length-start c = omega (arith, line_length_within c.args.bytes.now)

-- the length of the first line, as the code finds it
found : goal.returns
found c = ap (λ rest. c.args.from + rest) c.line_length.ensures ∙ sym (line_length_rest c.args.bytes.now c.args.from c.requires)

pub overflow_add-result : goal.overflow_add-result
overflow_add-result c = omega (arith, found c, line_length_within c.args.bytes.now)

pub returns : goal.returns
returns c = found c
