use Rattle.std.proofs.Common.{rules}
use Rattle.rpq_text.specs.WordTexts.{slashed_label}
use Rattle.rpq_run.proofs.ErrorTexts.{tells_element}
use Rattle.rpq_run.proofs.word_texts.put_slashed.Goals as goal

pub returns-in_err-put_label : goal.returns-in_err-put_label
returns-in_err-put_label g c =
    tells_element slashed_label c.args.labels.now c.loop-label.label-index c.label-item.result
    c.loop-label-test.true c.label-item.is c.loop-label.invariant.written c.loop-label.invariant.quiet
    (search rules) c.in_err-put_label.ensures
