use Rattle.std.proofs.Common.{arith}
use Rattle.rpq_text.proofs.Pieces.{piece_fits}
use Rattle.rpq_text.proofs.error_lines.line_of.Goals as goal

pub push_str-requires : goal.push_str-requires
push_str-requires c = (
  omega arith,
  piece_fits (λ piece. piece.now) c.args.pieces.now c.loop-piece.piece-index _
      c.loop-piece.line.bytes c.loop-piece-test.true c.loop-piece.invariant c.requires,
)
