use Rattle.std.proofs.Common.{length, unwrap_or, ap, ◌∙◌}
use Rattle.text_parts.proofs.LineLengths.{line_length_position}
use Rattle.text_parts.proofs.lines.line_length.Goals as goal

pub returns : goal.returns
returns c =
    c.unwrap_or.ensures
    ∙ ap (λ place. unwrap_or place (length c.args.text.now)) c.first_feed.ensures.first
    ∙ line_length_position c.args.text.now
