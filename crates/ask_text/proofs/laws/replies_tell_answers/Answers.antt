use Rattle.std.proofs.Common.{rules, ◌<◌}
use Rattle.rpq_model.specs.Query.{Query}
use Rattle.ask_text.proofs.Telling.{replies_tell_answers}
use Rattle.ask_text.proofs.laws.replies_tell_answers.Goals as goal

pub returns : goal.returns
returns c =
    let query : Query = c.args.query.now in
    let above : 0 < query.window.slide = search rules in
    replies_tell_answers query (λ history rows are each.
    c.rows_hold_answers.ensures query.mode query.window history rows each above are)
