use Rattle.std.proofs.Common.{◌++◌, rules}
use Rattle.std.specs.Prelude.{codes}
use Rattle.std.specs.List.{flat_map}
use Rattle.rpq_text.specs.WordTexts.{spaced_word}
use Rattle.rpq_run.proofs.ErrorTexts.{tells_as, tells_failed, tells_then}
use Rattle.rpq_run.proofs.errors.tell_not_contained.Goals as goal

pub returns-in_err-put_line : goal.returns-in_err-put_line
returns-in_err-put_line g c =
    tells_failed (flat_map (λ word. spaced_word word.now) c.args.words.now ++ codes "\n") (search rules)
    (tells_as c.not_contained_front.ensures c.in_err-put_line.ensures)

pub returns : goal.returns
returns g c =
    tells_then (tells_as c.not_contained_front.ensures c.in_ok-put_line.ensures) c.end_with_words.ensures
