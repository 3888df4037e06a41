use Rattle.std.proofs.Common.{length, unwrap_or, ap, ◌∙◌}
use Rattle.text_parts.specs.Lines.{is_blank}
use Rattle.query_file.proofs.FirstFields.{place_of}
use Rattle.query_file.proofs.first_field.field_length.Goals as goal

pub returns-clause-length : goal.returns-clause-length
returns-clause-length c =
    c.unwrap_or.ensures
    ∙ ap (λ place. unwrap_or place (length c.args.text.now)) c.first_blank.ensures.first
    ∙ place_of is_blank c.args.text.now
