use Rattle.std.proofs.Common.{ap, sym, ◌∙◌}
use Rattle.path_syntax.specs.FaultTexts.{bad_expr_text}
use Rattle.path_syntax.specs.declared.read.BadExpr.{BadExpr}
use Rattle.rpq_text.specs.ErrorLines.{query_text}
use Rattle.rpq_text.proofs.error_lines.expr_line.Goals as goal

pub returns-in-Unexpected : goal.returns-in-Unexpected
returns-in-Unexpected c = c.place_line.ensures
    ∙ ap (λ (f : BadExpr). query_text c.args.line (bad_expr_text f)) (sym c.in-Unexpected.is)

pub returns-in-Ended : goal.returns-in-Ended
returns-in-Ended c = c.query_line.ensures
    ∙ ap (λ (f : BadExpr). query_text c.args.line (bad_expr_text f)) (sym c.in-Ended.is)

pub returns-in-TooLarge : goal.returns-in-TooLarge
returns-in-TooLarge c = c.query_line-in-TooLarge.ensures
    ∙ ap (λ (f : BadExpr). query_text c.args.line (bad_expr_text f)) (sym c.in-TooLarge.is)
