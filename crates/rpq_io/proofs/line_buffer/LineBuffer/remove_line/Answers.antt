use Rattle.std.proofs.Common.{◌+◌, ◌≤◌, length, take, drop, arith, ap, ◌∙◌}
use Rattle.std.proofs.lemmas.List.Edits.{length-between}
use Rattle.rpq_io.proofs.HeldParts.{part_front, part_behind}
use Rattle.rpq_io.proofs.line_buffer.LineBuffer.remove_line.Goals as goal

pub returns-clause-line : goal.returns-clause-line
returns-clause-line c =
    let line = c.line_length-line.result in
    let bytes = c.self.inside.bytes.items in
    let start = c.self.inside.start in
    let end = c.self.inside.end in
    let within : start + line ≤ end =
    omega (
      arith,
      c.line_length-line.ensures.within,
      ap (λ held. length held.bytes) c.self.view_is,
      length-between bytes start end c.self.invariant.within,
      c.self.invariant.order,
    ) in
    part_front bytes start end line within
    ∙ ap (λ held. take line held.bytes) c.self.view_is
    ∙ ap (λ count. take count c.args.self.now.bytes) c.line_length-line.ensures.line

pub returns-clause-bytes : goal.returns-clause-bytes
returns-clause-bytes c =
    let line = c.line_length-line.result in
    part_behind c.self.inside.bytes.items c.self.inside.start c.self.inside.end (line + 1)
    c.min-self-inside.result c.self.invariant.within (omega (arith, c.min-self-inside.ensures))
    ∙ ap (λ held. drop (line + 1) held.bytes) c.self.view_is
    ∙ ap (λ count. drop (count + 1) c.args.self.now.bytes) c.line_length-line.ensures.line
