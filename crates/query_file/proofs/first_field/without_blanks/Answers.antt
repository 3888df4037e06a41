use Rattle.std.proofs.Common.{drop, sym, ap, subst, ◌∙◌}
use Rattle.query_file.specs.FirstField.{IsBehindBlanks}
use Rattle.query_file.proofs.FirstFields.{behind_blanks, rest_at}
use Rattle.query_file.proofs.first_field.without_blanks.Goals as goal

pub returns-clause-cut : goal.returns-clause-cut
returns-clause-cut c =
    let line = c.args.line.now in
    let start = c.blanks_length-start in
    subst (IsBehindBlanks line)
    (sym (rest_at line start.result ∙ ap (λ place. drop place line) start.ensures.length)) (behind_blanks line)
