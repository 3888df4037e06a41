use Rattle.std.proofs.Common.{rules}
use Rattle.std.specs.Prelude.{codes}
use Rattle.rpq_run.proofs.ErrorTexts.{tells_failed, tells_then}
use Rattle.rpq_run.proofs.word_texts.end_with_words.Goals as goal

pub returns-in_err-put_words : goal.returns-in_err-put_words
returns-in_err-put_words g c = tells_failed (codes "\n") (search rules) c.in_err-put_words.ensures

pub returns : goal.returns
returns g c = tells_then c.in_ok-put_words.ensures c.put_piece.ensures
