use Rattle.std.proofs.Common.{length, unwrap_or, not, ap, ◌∙◌}
use Rattle.text_parts.specs.Lines.{is_blank}
use Rattle.query_file.proofs.FirstFields.{place_of}
use Rattle.query_file.proofs.first_field.blanks_length.Goals as goal

pub returns-clause-length : goal.returns-clause-length
returns-clause-length c =
    c.unwrap_or.ensures
    ∙ ap (λ place. unwrap_or place (length c.args.line.now)) c.first_solid.ensures.first
    ∙ place_of (λ byte. not (is_blank byte)) c.args.line.now
