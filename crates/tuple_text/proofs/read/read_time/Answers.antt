use Rattle.std.proofs.Common.{◌∙◌, sym, ap, Ok, arith}
use Rattle.tuple_text.proofs.Steps.{time_read, time_not_digits, time_too_large}
use Rattle.tuple_text.proofs.read.read_time.Goals as goal

pub returns-in-Ok-clause-exact : goal.returns-in-Ok-clause-exact
returns-in-Ok-clause-exact c =
    ap (λ time. Ok time) c.in-Ok.ensures.value
    ∙ sym (time_read c.args.field.now c.in-Ok.ensures.digits (omega (arith, c.in-Ok.ensures.value, c.in-Ok.ensures.within)))

pub returns-in-Err-NotDigits-clause-exact : goal.returns-in-Err-NotDigits-clause-exact
returns-in-Err-NotDigits-clause-exact c = sym (time_not_digits c.args.field.now (c.in-Err-NotDigits.ensures.not_digits.0 cc))

pub returns-in-Err-TooLarge-clause-exact : goal.returns-in-Err-TooLarge-clause-exact
returns-in-Err-TooLarge-clause-exact c =
    let large = c.in-Err-TooLarge.ensures.too_large.0 cc in
    sym (time_too_large c.args.field.now large.0 large.1)
