use Rattle.std.proofs.Common.{[], ◌∷◌, ap, sym, rules}
use Rattle.rpq_text.specs.WordTexts.{verdict_at_end, words_at_end}
use Rattle.rpq_run.proofs.ErrorTexts.{tells_as, tells_failed, tells_then}
use Rattle.rpq_run.proofs.check.end_with_verdict.Goals as goal

pub returns-in_err-put_piece-in-No : goal.returns-in_err-put_piece-in-No
returns-in_err-put_piece-in-No g c =
    tells_as (ap verdict_at_end (sym c.in-No.is))
    (tells_failed (words_at_end (c.in-No.p ∷ c.in-No.q ∷ c.in-No.w ∷ [])) (search rules)
    c.in_err-put_piece-in-No.ensures)

pub returns-in_ok-put_piece-in-No : goal.returns-in_ok-put_piece-in-No
returns-in_ok-put_piece-in-No g c =
    tells_as (ap verdict_at_end (sym c.in-No.is)) (tells_then c.in_ok-put_piece-in-No.ensures c.end_with_words.ensures)
