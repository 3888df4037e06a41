use Rattle.rpq_model.proofs.Existence.{histories_have_answers}
use Rattle.rpq_model.proofs.answer_laws.histories_have_answers.Goals as goal

pub returns : goal.returns
returns c = histories_have_answers c.nullable_has_empty_word.ensures
