use Rattle.rpq_model.specs.AnswerLaws.{query_for}
use Rattle.answer_view.proofs.Views.{rows_hold_answers}
use Rattle.answer_view.proofs.laws.rows_hold_answers.Goals as goal

pub returns : goal.returns
returns g c = λ mode window history rows pair some are.
    rows_hold_answers (query_for (g.L.Language.contains c.args.language.now) mode window) history
    rows pair (c.answers_end.ensures mode window history pair some) are
