use Rattle.answer_view.proofs.Views.{views_are_one}
use Rattle.answer_view.proofs.laws.views_are_one.Goals as goal

pub returns : goal.returns
returns c = views_are_one c.ends_tell_rows.ensures
