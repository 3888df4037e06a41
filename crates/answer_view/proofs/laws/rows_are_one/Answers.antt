use Rattle.rpq_model.specs.AnswerLaws.{query_for}
use Rattle.answer_view.proofs.Views.{rows_are_one}
use Rattle.answer_view.proofs.laws.rows_are_one.Goals as goal

pub returns : goal.returns
returns g c = λ mode window. rows_are_one c.ends_tell_rows.ensures
    (query_for (g.L.Language.contains c.args.language.now) mode window)
