use Rattle.std.proofs.Common.{sym, ◌∙◌}
use Rattle.std.proofs.lemmas.Bool.{false≢true}
use Rattle.query_file.proofs.FirstFields.{one_first}
use Rattle.query_file.proofs.Texts.{if_none}
use Rattle.std.proofs.lemmas.Slice.Eq.{bytes_eq-Decides}
use Rattle.query_file.proofs.line_text.behind_word.Goals as goal

pub returns-in_err-field-clause-none : goal.returns-in_err-field-clause-none
returns-in_err-field-clause-none c = if_none c.from_residual.result (λ rest first. c.in_err-field.ensures.not_first c.args.word.now rest first)

pub returns-else-eq-clause-none : goal.returns-else-eq-clause-none
returns-else-eq-clause-none c = λ rest first.
    let both = one_first c.args.line.now c.in_ok-field.field.now c.in_ok-field.rest.now c.args.word.now rest c.in_ok-field.ensures.cut first in
    let equal = (bytes_eq-Decides c.in_ok-field.field.now c.args.word.now).1 both.0 in
    absurd (false≢true (sym c.if-eq.false ∙ c.eq.ensures ∙ equal))
