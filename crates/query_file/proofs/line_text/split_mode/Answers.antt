use Rattle.rpq_model.specs.declared.mode.Mode.TheVariants.{Arbitrary, Simple}
use Rattle.query_file.proofs.Texts.{if_none, mode_cut, no_mode}
use Rattle.query_file.proofs.line_text.split_mode.Goals as goal

pub returns-in-Some-clause-some : goal.returns-in-Some-clause-some
returns-in-Some-clause-some c =
    mode_cut c.args.rest.now c.without_blanks-text.result.now Arbitrary c.in-Some.expr.now c.requires c.without_blanks-text.ensures.cut c.in-Some.ensures

pub returns-clause-some : goal.returns-clause-some
returns-clause-some c =
    mode_cut c.args.rest.now c.without_blanks-text.result.now Simple c.in_ok-expr.expr.now c.requires c.without_blanks-text.ensures.cut c.in_ok-expr.ensures

pub returns-in_err-expr-clause-none : goal.returns-in_err-expr-clause-none
returns-in_err-expr-clause-none c =
    if_none c.from_residual.result (no_mode c.args.rest.now c.without_blanks-text.result.now c.without_blanks-text.ensures.cut
    c.in_default.ensures c.in_err-expr.ensures)
