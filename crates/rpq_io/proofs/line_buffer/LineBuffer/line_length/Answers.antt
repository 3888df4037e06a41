use Rattle.std.proofs.Common.{◌≡◌, arith, ap, ◌∙◌}
use Rattle.text_parts.specs.Lines.{line_length}
use Rattle.text_parts.proofs.LineLengths.{line_length_within}
use Rattle.rpq_io.proofs.line_buffer.LineBuffer.line_length.Goals as goal

pub returns-clause-within : goal.returns-clause-within
returns-clause-within c =
    let is : c.self.inside.line_length ≡ line_length c.args.self.now.bytes =
    c.self.invariant.line ∙ ap (λ held. line_length held.bytes) c.self.view_is in
    omega (arith, is, line_length_within c.args.self.now.bytes)
