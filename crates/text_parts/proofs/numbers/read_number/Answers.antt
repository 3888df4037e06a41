use Rattle.std.proofs.Common.{◌≡◌, Some, refl, sym, ap, ◌∙◌, arith}
use Rattle.std.proofs.lemmas.List.{take_all}
use Rattle.text_parts.specs.Numbers.{number_of}
use Rattle.text_parts.proofs.Digits.{number_of_above, within_fits, within_larger, within_other}
use Rattle.text_parts.proofs.numbers.read_number.Goals as goal

pub returns-then-not-is_digit_text-clause-answer : goal.returns-then-not-is_digit_text-clause-answer
returns-then-not-is_digit_text-clause-answer c = sym (within_other c.args.text.now c.args.most cc)

pub returns-in-None-clause-too_large : goal.returns-in-None-clause-too_large
returns-in-None-clause-too_large c =
    (λ _. (c.is_digit_text.ensures.exact.0 cc, number_of_above c.args.text.now c.loop-byte.byte-index c.args.most (omega arith) (omega arith)), λ _. refl)

pub returns-in-None-clause-refused : goal.returns-in-None-clause-refused
returns-in-None-clause-refused c = λ _. number_of_above c.args.text.now c.loop-byte.byte-index c.args.most (omega arith) (omega arith)

pub returns-in-None-clause-answer : goal.returns-in-None-clause-answer
returns-in-None-clause-answer c =
    let text = c.args.text.now in
    sym (within_larger text c.args.most (c.is_digit_text.ensures.exact.0 cc)
    (number_of_above text c.loop-byte.byte-index c.args.most (omega arith) (omega arith)))

pub returns-clause-answer : goal.returns-clause-answer
returns-clause-answer c =
    let text = c.args.text.now in
    let value : c.loop-byte.number ≡ number_of text = c.loop-byte.invariant.0 ∙ ap number_of (take_all c.loop-byte.byte-index text (omega arith)) in
    ap (λ number. Some number) value ∙ sym (within_fits text c.args.most (c.is_digit_text.ensures.exact.0 cc) (omega arith))
