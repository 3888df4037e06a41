use Rattle.std.proofs.Common.{◌+◌, ◌<◌, length, take, drop, ap, ◌∙◌, refl, arith}
use Rattle.text_parts.specs.Lines.{line_length, without_return}
use Rattle.rpq_io.proofs.FoundLines.{handed, counts_handed, cause_handed, gives_line}
use Rattle.rpq_io.proofs.ReaderSteps.{allowed_some}
use Rattle.rpq_io.proofs.line_reader.LineReader.next_line.Goals as goal

pub returns-in_err-has_line-clause-faults : goal.returns-in_err-has_line-clause-faults
returns-in_err-has_line-clause-faults g c =
    let fault = c.in_err-has_line.field-0.0 in
    counts_handed _ c.from_residual.result fault refl
    (handed c.from_residual.result fault c.from_residual.ensures.1) _ _ c.in_err-has_line.ensures.faults

pub returns-in_err-has_line-clause-cause : goal.returns-in_err-has_line-clause-cause
returns-in_err-has_line-clause-cause g c =
    let fault = c.in_err-has_line.field-0.0 in
    cause_handed _ c.from_residual.result fault refl
    (handed c.from_residual.result fault c.from_residual.ensures.1) g.S.Source.left c.args.self.now _
    c.in_err-has_line.ensures.cause

pub remove_line-requires : goal.remove_line-requires
remove_line-requires g c =
    let found = c.find_line.new.self in
    let some : 0 < length found.held_bytes =
    allowed_some _ _ _ (c.in_ok-has_line.ensures.line c.if-not-has_line.false) in
    omega (arith, some, ap (λ reader. length reader.held_bytes) c.self.view_is)

pub returns-clause-line : goal.returns-clause-line
returns-clause-line g c =
    let found = c.find_line in
    gives_line g.S.Source.left g.S.Source.has_told_end c.args.self.now found.new.self _
    found.ensures.kept found.ensures.sound (c.in_ok-has_line.ensures.line c.if-not-has_line.false)
    (record {
      held = c.remove_line.ensures.bytes
          ∙ ap (λ reader. drop (line_length reader.held_bytes + 1) reader.held_bytes) c.self.view_is;
      counted = ap (λ reader. reader.line_count + 1) c.self.view_is;
      taken = record {
        source = ap (λ reader. reader.source) c.self.view_is;
        count = ap (λ reader. reader.taken_count) c.self.view_is;
        end = ap (λ reader. reader.is_at_end) c.self.view_is;
      };
      line_limit = ap (λ reader. reader.line_limit) c.self.view_is;
      byte_limit = ap (λ reader. reader.byte_limit) c.self.view_is;
    })
    c.in_ok-line.line.items
    (c.in_ok-line.ensures.items
    ∙ (c.without_return.ensures.line
    ∙ (ap without_return c.first_line.ensures
    ∙ ap (λ reader. without_return (take (line_length reader.held_bytes) reader.held_bytes))
    c.self.view_is)))
