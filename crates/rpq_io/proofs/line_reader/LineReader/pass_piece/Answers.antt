use Rattle.std.proofs.Common.{arith, ap, ◌∙◌}
use Rattle.text_parts.proofs.LineLengths.{line_length-nil}
use Rattle.rpq_io.proofs.PassedLines.{emptied, piece_read}
use Rattle.rpq_io.proofs.line_reader.LineReader.pass_piece.Goals as goal

pub fill-requires : goal.fill-requires
fill-requires g c =
    emptied _ (ap (λ reader. reader.is_at_end) c.self.view_is ∙ c.requires.untold)
    c.clear.ensures.bytes (omega (arith, c.if-self.false, c.self.invariant.0.within)) line_length-nil

pub returns-in_err-fill-clause-had : goal.returns-in_err-fill-clause-had
returns-in_err-fill-clause-had g c =
    piece_read g.S.Source.left c.args.self.now _ c.fill.new.self c.clear.ensures.bytes
    (ap (λ reader. reader.source) c.self.view_is)
    (ap (λ reader. reader.taken_count) c.self.view_is)
    (ap (λ reader. reader.line_count) c.self.view_is)
    c.in_err-fill.ensures.had c.in_err-fill.ensures.counted

pub returns-clause-had : goal.returns-clause-had
returns-clause-had g c =
    piece_read g.S.Source.left c.args.self.now _ c.fill.new.self c.clear.ensures.bytes
    (ap (λ reader. reader.source) c.self.view_is)
    (ap (λ reader. reader.taken_count) c.self.view_is)
    (ap (λ reader. reader.line_count) c.self.view_is)
    c.in_ok-fill.ensures.had c.in_ok-fill.ensures.counted
