use Rattle.std.proofs.Common.{◌++◌, ap, rules}
use Rattle.path_syntax.specs.Written.{caret, written_name}
use Rattle.rpq_run.proofs.ErrorTexts.{tells_as, tells_failed, tells_then}
use Rattle.rpq_run.proofs.word_texts.put_label.Goals as goal

pub returns-in_err-put_piece : goal.returns-in_err-put_piece
returns-in_err-put_piece g c =
    let label = c.args.label.now in
    tells_failed (caret label.back ++ written_name label.name) (search rules) c.in_err-put_piece.ensures

pub returns-in_err-put_piece-2 : goal.returns-in_err-put_piece-2
returns-in_err-put_piece-2 g c =
    tells_then c.in_ok-put_piece.ensures
    (tells_failed (written_name c.args.label.now.name) (search rules)
    (tells_as c.caret.ensures c.in_err-put_piece-2.ensures))

pub returns : goal.returns
returns g c =
    tells_then c.in_ok-put_piece.ensures
    (tells_then (tells_as c.caret.ensures c.in_ok-put_piece-2.ensures)
    (tells_as (ap written_name c.as_bytes.ensures.bytes) c.put_name.ensures))
