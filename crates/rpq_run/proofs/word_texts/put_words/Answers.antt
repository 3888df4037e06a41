use Rattle.std.proofs.Common.{◌≡◌, List, Bor, ap, ◌∙◌, rules}
use Rattle.rpq_base.specs.declared.data.Label.{Label}
use Rattle.rpq_text.specs.WordTexts.{spaced_word}
use Rattle.rpq_run.proofs.ErrorTexts.{tells_as, tells_element}
use Rattle.rpq_run.proofs.word_texts.put_words.Goals as goal

pub returns-in_err-put_word : goal.returns-in_err-put_word
returns-in_err-put_word g c =
    let word : c.deref.result.now ≡ c.word-item.result.now =
    c.deref.ensures.value ∙ ap (λ (w : Bor (List Label)). w.now) c.word.view_is in
    tells_element (λ word. spaced_word word.now) c.args.words.now c.loop-word.word-index c.word-item.result
    c.loop-word-test.true c.word-item.is c.loop-word.invariant.written c.loop-word.invariant.quiet
    (search rules) (tells_as (ap spaced_word word) c.in_err-put_word.ensures)
