use Rattle.rpq_model.specs.AnswerLaws.{query_for}
use Rattle.rpq_model.proofs.Ticks.{tick_moves_the_clock}
use Rattle.rpq_model.proofs.answer_laws.tick_moves_the_clock.Goals as goal

pub returns : goal.returns
returns g c = λ mode window. tick_moves_the_clock (query_for (g.L.Language.contains c.args.language.now) mode window)
