use Rattle.std.proofs.Common.{ap, sym, ◌∙◌}
use Rattle.query_file.specs.FaultTexts.{query_kind_text}
use Rattle.query_file.specs.declared.fault.QueryKind.{QueryKind}
use Rattle.rpq_text.specs.ErrorLines.{query_text}
use Rattle.rpq_run.proofs.ErrorTexts.{tells_as}
use Rattle.rpq_text.proofs.WordPieces.{not_contained_line}
use Rattle.rpq_run.proofs.errors.tell_query.Goals as goal

pub returns-in-NotContained : goal.returns-in-NotContained
returns-in-NotContained g c =
    let line = c.args.fault.now.line in
    tells_as (not_contained_line line c.in-NotContained.p c.in-NotContained.q c.in-NotContained.w
    ∙ ap (λ (k : QueryKind). query_text line (query_kind_text k)) (sym c.in-NotContained.is))
    c.tell_not_contained.ensures
